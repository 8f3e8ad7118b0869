use Rattle.std.proofs.Common.{◌≡◌, ◌++◌, length, drop}
use Rattle.lists.specs.Lists.{marked}
use Rattle.lists.proofs.rows.put_marked.Given as goal

abbrev pub invariant-loop-p : goal.invariant-loop-p
invariant-loop-p l = (l.k ≡ length (marked l.row l.p)) × (l.list ≡ marked l.row l.p ++ drop l.k l.initial.list)
