use Rattle.std.proofs.Common.{◌≡◌, ◌++◌, take, string_bytes}
use Rattle.console_calls.specs.Lines.{spaced}
use Rattle.console_calls.proofs.lines.add_told.Given as goal

abbrev pub invariant-loop-n : goal.invariant-loop-n
invariant-loop-n l = string_bytes l.out ≡ string_bytes l.initial.out ++ spaced (take l.n-index l.numbers)
