use Rattle.std.proofs.Common.{take}
use Rattle.sparse.specs.Arrays.{Gathered}
use Rattle.sparse.proofs.cells.Cells.gather.Given as goal

abbrev pub invariant-loop-p : goal.invariant-loop-p
invariant-loop-p l =
    Gathered l.base l.w l.count (take l.p-index l.list) l.front
    l.initial.self.dom.now l.initial.self.map.now l.self.dom.now l.self.map.now
