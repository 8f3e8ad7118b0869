use Rattle.std.proofs.Common.{refl}
use Rattle.model.specs.Calls.{strike}
use Rattle.planner.proofs.Narrowing.{Step, strike_step}
use Rattle.planner.proofs.Holding.{step_held, step_makes, same_planner}
use Rattle.planner.proofs.Planner.strike_loaded.Goals as goal
use Rattle.planner.proofs.Planner.strike_loaded.Goals.{After-strike}

step : (g : _) (c : goal.After-strike g) → Step (g.S.Store.mean c.args.self.now.store) (strike c.args.g c.args.p) c.strike.result (g.S.Store.mean c.strike.new.self)
step g c = strike_step (g.S.Store.mean c.args.self.now.store) c.args.g c.args.p c.strike.result (g.S.Store.mean c.strike.new.self) (g.S.Store.sound c.strike.new.self) c.strike.ensures.meant

pub invariant_of-self : goal.invariant_of-self
invariant_of-self g c =
    let p = c.args.self.now in
    record { held = step_held (g.S.Store.mean p.store) (g.S.Store.mean c.strike.new.self) p.plan p.book.depth (strike c.args.g c.args.p) c.strike.result (step g c) p.held }

pub returns-clause-whole : goal.returns-clause-whole
returns-clause-whole g c = λ e. same_planner c.args.self.now _ (c.strike.ensures.whole e) refl refl

pub returns-clause-made : goal.returns-clause-made
returns-clause-made g c = step_makes c.args.self.now c.strike.new.self (strike c.args.g c.args.p) c.strike.result (step g (goal.at.returns-clause-made g c).After-strike)
