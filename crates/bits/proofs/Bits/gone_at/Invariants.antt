use Rattle.std.proofs.Common.{◌≡◌, ◌≤◌, length, take}
use Rattle.bits.specs.Representation.{gone_in}
use Rattle.bits.proofs.Bits.gone_at.Given as goal

abbrev pub invariant-loop-r : goal.invariant-loop-r
invariant-loop-r l = (l.seen ≡ length (gone_in l.g (take l.r-index l.r-items))) × (l.seen ≤ l.k) × (l.seen ≤ l.r-index)
