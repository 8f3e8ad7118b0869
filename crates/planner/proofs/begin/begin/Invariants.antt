use Rattle.plan.specs.Views.{load_of}
use Rattle.planner.proofs.Beginning.{Under}
use Rattle.planner.proofs.begin.begin.Given as goal

abbrev pub invariant-loop-g : goal.invariant-loop-g
invariant-loop-g g l = Under (load_of l.plan) l.g (g.S.Store.mean l.store)
