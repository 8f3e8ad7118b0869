use Rattle.std.proofs.Common.{◌≡◌, ◌++◌, drop}
use Rattle.std.specs.List.{repeat}
use Rattle.cases.proofs.hexadecimal.add_again.Given as goal

abbrev pub invariant-loop : goal.invariant-loop
invariant-loop l = l.bytes.items ≡ l.fn.bytes.items ++ repeat l.counter (drop l.start l.fn.bytes.items)
