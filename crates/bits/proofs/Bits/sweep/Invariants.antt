use Rattle.std.proofs.Common.{◌≡◌}
use Rattle.bits.specs.Meanings.{meaning}
use Rattle.bits.proofs.Sweeping.{Swept}
use Rattle.bits.proofs.Bits.sweep.Given as goal

abbrev pub invariant-loop-q : goal.invariant-loop-q
invariant-loop-q l = (l.q-iterator.row ≡ l.out) × Swept l.initial.self l.g l.out l.q-iterator.from (meaning l.self)
