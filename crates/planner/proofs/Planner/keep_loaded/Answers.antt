use Rattle.std.proofs.Common.{refl}
use Rattle.model.specs.Calls.{keep}
use Rattle.planner.proofs.Narrowing.{Step, keep_step}
use Rattle.planner.proofs.Holding.{step_held, step_makes, same_planner}
use Rattle.planner.proofs.Planner.keep_loaded.Goals as goal
use Rattle.planner.proofs.Planner.keep_loaded.Goals.{After-keep}

step : (g : _) (c : goal.After-keep g) → Step (g.S.Store.mean c.args.self.now.store) (keep c.args.g c.args.list.now) c.keep.result (g.S.Store.mean c.keep.new.self)
step g c = keep_step (g.S.Store.mean c.args.self.now.store) c.args.g c.args.list.now c.keep.result (g.S.Store.mean c.keep.new.self) (g.S.Store.sound c.keep.new.self) c.keep.ensures.meant

pub invariant_of-self : goal.invariant_of-self
invariant_of-self g c =
    let p = c.args.self.now in
    record { held = step_held (g.S.Store.mean p.store) (g.S.Store.mean c.keep.new.self) p.plan p.book.depth (keep c.args.g c.args.list.now) c.keep.result (step g c) p.held }

pub returns-clause-whole : goal.returns-clause-whole
returns-clause-whole g c = λ e. same_planner c.args.self.now _ (c.keep.ensures.whole e) refl refl

pub returns-clause-made : goal.returns-clause-made
returns-clause-made g c = step_makes c.args.self.now c.keep.new.self (keep c.args.g c.args.list.now) c.keep.result (step g (goal.at.returns-clause-made g c).After-keep)
