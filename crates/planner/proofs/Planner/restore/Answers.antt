use Rattle.std.proofs.Common.{◌≤◌, sym, refl, subst, arith}
use Rattle.std.proofs.lemmas.Bool.{ltb-true, ltb-false}
use Rattle.planner.specs.Holdings.{HoldsGiven}
use Rattle.planner.proofs.Holding.{same_planner}
use Rattle.planner.proofs.Saving.{restored_held, restore_makes, restore_refused}
use Rattle.planner.proofs.Planner.restore.Goals as goal

pub returns-then-not-has_save-clause-made : goal.returns-then-not-has_save-clause-made
returns-then-not-has_save-clause-made g c =
    let p = c.args.self.now in
    let none : p.book.depth ≤ 0 = ltb-false 0 p.book.depth (sym c.if-not-has_save.ensures) in
    restore_refused p (omega arith)

pub invariant_of-self : goal.invariant_of-self
invariant_of-self g c =
    let p = c.args.self.now in
    record { held = subst (λ store. HoldsGiven (g.S.Store.mean store) p.plan p.book.depth) (sym (c.in_err-many.ensures.whole refl)) p.held }

pub returns-in_err-many-clause-whole : goal.returns-in_err-many-clause-whole
returns-in_err-many-clause-whole g c = λ _. same_planner c.args.self.now _ (c.in_err-many.ensures.whole refl) refl refl

pub invariant_of-self-2 : goal.invariant_of-self-2
invariant_of-self-2 g c =
    let p = c.args.self.now in
    record {
      held = restored_held (g.S.Store.mean p.store) (g.S.Store.mean c.restore.new.self) p.plan p.book.depth c.restore-2.new.self.depth c.in_ok-many.many c.in_ok-many.ensures.meant
          (ltb-true 0 p.book.depth (sym c.if-not-has_save.ensures)) c.restore-2.ensures.closed p.held;
    }

pub returns-clause-made : goal.returns-clause-made
returns-clause-made g c =
    let p = c.args.self.now in
    restore_makes p c.restore.new.self c.restore-2.new.self c.in_ok-many.many c.in_ok-many.ensures.meant (ltb-true 0 p.book.depth (sym c.if-not-has_save.ensures))
    c.restore-2.ensures.notes c.restore-2.ensures.saved
