use Rattle.std.proofs.Common.{refl}
use Rattle.model.specs.Calls.{bind}
use Rattle.planner.proofs.Narrowing.{Step, bind_step}
use Rattle.planner.proofs.Holding.{step_held, step_makes, same_planner}
use Rattle.planner.proofs.Planner.bind_loaded.Goals as goal
use Rattle.planner.proofs.Planner.bind_loaded.Goals.{After-bind}

step : (g : _) (c : goal.After-bind g) → Step (g.S.Store.mean c.args.self.now.store) (bind c.args.g c.args.p) c.bind.result (g.S.Store.mean c.bind.new.self)
step g c = bind_step (g.S.Store.mean c.args.self.now.store) c.args.g c.args.p c.bind.result (g.S.Store.mean c.bind.new.self) (g.S.Store.sound c.bind.new.self) c.bind.ensures.meant

pub invariant_of-self : goal.invariant_of-self
invariant_of-self g c =
    let p = c.args.self.now in
    record { held = step_held (g.S.Store.mean p.store) (g.S.Store.mean c.bind.new.self) p.plan p.book.depth (bind c.args.g c.args.p) c.bind.result (step g c) p.held }

pub returns-clause-whole : goal.returns-clause-whole
returns-clause-whole g c = λ e. same_planner c.args.self.now _ (c.bind.ensures.whole e) refl refl

pub returns-clause-made : goal.returns-clause-made
returns-clause-made g c = step_makes c.args.self.now c.bind.new.self (bind c.args.g c.args.p) c.bind.result (step g (goal.at.returns-clause-made g c).After-bind)
