use Rattle.std.proofs.Common.{arith}
use Rattle.plan.specs.Views.{load_of}
use Rattle.planner.proofs.Beginning.{under_step}
use Rattle.planner.proofs.begin.begin.Goals as goal

pub loop-g-preserved : goal.loop-g-preserved
loop-g-preserved g c =
    let inv = c.loop-g.invariant in
    under_step (load_of c.args.plan.now) c.loop-g.g (g.S.Store.mean c.loop-g.store) (g.S.Store.mean c.keep_starts.new.store) inv (c.keep_starts.ensures (omega (arith, inv.gates)))
