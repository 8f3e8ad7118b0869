use Rattle.std.proofs.Common.{sym, refl, subst}
use Rattle.std.proofs.lemmas.Bool.{ltb-true, ltb-false}
use Rattle.model.specs.Bounds.{most_saves}
use Rattle.planner.specs.Holdings.{HoldsGiven}
use Rattle.planner.proofs.Holding.{same_planner}
use Rattle.planner.proofs.Saving.{saved_held, save_makes, save_refused, save_taken}
use Rattle.planner.proofs.Planner.save.Goals as goal

pub returns-then-not-has_room-clause-made : goal.returns-then-not-has_room-clause-made
returns-then-not-has_room-clause-made g c = save_refused c.args.self.now (ltb-false c.args.self.now.book.depth most_saves (sym c.if-not-has_room.ensures))

pub invariant_of-self : goal.invariant_of-self
invariant_of-self g c =
    let p = c.args.self.now in
    record { held = subst (λ store. HoldsGiven (g.S.Store.mean store) p.plan p.book.depth) (sym (c.in_err-many.ensures.whole refl)) p.held }

pub returns-in_err-many-clause-whole : goal.returns-in_err-many-clause-whole
returns-in_err-many-clause-whole g c = λ _. same_planner c.args.self.now _ (c.in_err-many.ensures.whole refl) refl refl

pub returns-in_err-many-clause-made : goal.returns-in_err-many-clause-made
returns-in_err-many-clause-made g c = λ load e.
    let p = c.args.self.now in
    absurd (save_taken p c.in_err-many.field-0.0 c.save.new.self c.in_err-many.ensures.meant (ltb-true p.book.depth most_saves (sym c.if-not-has_room.ensures)) load e)

pub invariant_of-self-2 : goal.invariant_of-self-2
invariant_of-self-2 g c =
    let p = c.args.self.now in
    record { held = saved_held (g.S.Store.mean p.store) (g.S.Store.mean c.save.new.self) p.plan p.book.depth c.save-2.new.self.depth c.in_ok-many.many c.in_ok-many.ensures.meant c.save-2.ensures.opened p.held }

pub returns-clause-made : goal.returns-clause-made
returns-clause-made g c =
    let p = c.args.self.now in
    save_makes p c.save.new.self c.save-2.new.self c.in_ok-many.many c.in_ok-many.ensures.meant (ltb-true p.book.depth most_saves (sym c.if-not-has_room.ensures))
    c.save-2.ensures.notes c.save-2.ensures.saved
