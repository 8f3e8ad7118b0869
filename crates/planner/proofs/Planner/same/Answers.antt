use Rattle.std.proofs.Common.{◌≡◌, sym, refl, ◌∙◌}
use Rattle.std.proofs.lemmas.Bool.{eqb-true}
use Rattle.planner.proofs.Asking.{alike_agree, agree_alike}
use Rattle.planner.proofs.Planner.same.Goals as goal
use Rattle.planner.proofs.Planner.same.Goals.{then-gates, else-gates, After-alike}

sizes : (g : _) (c : After-alike g) → ((g.S.Store.mean c.args.self.now.store).gates ≡ (g.R.Store.mean c.args.other.now.store).gates) × ((g.S.Store.mean c.args.self.now.store).width ≡ (g.R.Store.mean c.args.other.now.store).width)
sizes g c = elim c.if-gates.branch [
  | then-gates w ↦ (
    sym c.gates.ensures ∙ w.if-gates.true ∙ c.gates-2.ensures,
    sym w.width.ensures ∙ eqb-true w.width.result w.width-then-gates.result (sym w.value-is ∙ c.if-width.true) ∙ w.width-then-gates.ensures,
  )
  | else-gates w ↦ absurd (w.if-gates.false (eqb-true c.gates.result c.gates-2.result (sym w.value-is ∙ c.if-width.true)))
]

pub returns-then-width-clause-agree : goal.returns-then-width-clause-agree
returns-then-width-clause-agree g c = λ a b.
    let m = g.S.Store.mean c.args.self.now.store in
    let n = g.R.Store.mean c.args.other.now.store in
    let s = sizes g c in (
      c.alike.result,
      refl,
      (
        λ t. (s.0, s.1, alike_agree m n s.0 s.1 (sym c.alike.ensures ∙ t)),
        λ agree. c.alike.ensures ∙ agree_alike m n s.0 s.1 agree.2,
      ),
    )
