use Rattle.std.proofs.Common.{◌≡◌, length, take}
use Rattle.model.specs.Bounds.{most_width}
use Rattle.console_calls.proofs.make.positions.Given as goal

abbrev pub invariant-loop-i : goal.invariant-loop-i
invariant-loop-i l = (length l.list ≡ most_width) × (take l.i l.list ≡ take l.i l.listed)
