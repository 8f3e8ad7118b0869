use Rattle.std.proofs.Common.{◌≡◌, Some, sym, refl, subst}
use Rattle.model.specs.Plans.{Load, SoundLoad}
use Rattle.model.specs.Planners.{Loaded}
use Rattle.plan.specs.Views.{load_of}
use Rattle.plan.specs.Plans.{plan_text}
use Rattle.planner.specs.Holdings.{HoldsGiven}
use Rattle.planner.specs.States.{view}
use Rattle.planner.proofs.Holding.{same_planner}
use Rattle.planner.proofs.Loading.{not_begun, began, load_made, said}
use Rattle.planner.proofs.Planner.load.Goals as goal

pub invariant_of-self : goal.invariant_of-self
invariant_of-self g c =
    let p = c.args.self.now in
    let same = c.begin.ensures.whole (not_begun c.begin.result c.in_err-map_err.field-0.0 _ c.in_err-map_err.ensures.cases) in
    record { held = subst (λ store. HoldsGiven (g.S.Store.mean store) p.plan p.book.depth) (sym same) p.held }

pub returns-in_err-map_err-clause-whole : goal.returns-in_err-map_err-clause-whole
returns-in_err-map_err-clause-whole g c = λ _.
    let same = c.begin.ensures.whole (not_begun c.begin.result c.in_err-map_err.field-0.0 _ c.in_err-map_err.ensures.cases) in
    same_planner c.args.self.now _ same refl refl

pub returns-clause-made : goal.returns-clause-made
returns-clause-made g c = λ x e _.
    let found = c.in_ok-found.found in
    let load = load_of found.plan in
    let store = c.begin.new.store in
    let book = c.new-self.result in
    subst (λ (l : Load). (Some load ≡ Some l) × SoundLoad l × Loaded l (view (g.S.Store.mean store) book.notes.rows book.saved))
    (said (plan_text c.args.text.now) (record { load = load; read = found.read }) x c.in_ok-found.ensures.value e) (
      refl,
      c.in_ok-found.ensures.sound.0,
      load_made g.S.Store store found.plan book c.gone_lengths.result c.in_ok-found.ensures.sound.0
          (c.begin.ensures.begun (began c.begin.result _ _ c.in_ok-map_err.ensures.cases (λ e h. h))) c.new-self.ensures.notes c.gone_lengths.ensures,
    )
