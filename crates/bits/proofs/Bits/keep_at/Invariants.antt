use Rattle.std.proofs.Common.{not, ◌&&◌, take}
use Rattle.model.specs.Families.{has}
use Rattle.rows.specs.Rows.{lit, Holds}
use Rattle.bits.specs.Representation.{row_at}
use Rattle.bits.proofs.Bits.keep_at.Given as goal

abbrev pub invariant-loop-p : goal.invariant-loop-p
invariant-loop-p l = Holds l.out (λ q. lit (row_at l.self.domains l.g) q && not (has (take l.p-index l.list) q))
