use Rattle.std.proofs.Common.{◌≡◌, Ok, map}
use Rattle.cases.specs.Hexadecimal.{parts_bytes}
use Rattle.cases.proofs.hexadecimal.decode.Given as goal

abbrev pub invariant-loop-part : goal.invariant-loop-part
invariant-loop-part l = parts_bytes (map (λ x. x.now) l.yielded) ≡ Ok l.bytes.items
