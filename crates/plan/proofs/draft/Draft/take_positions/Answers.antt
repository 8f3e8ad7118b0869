use Rattle.std.proofs.Common.{Err, sym, refl, ap, ◌∙◌, rules}
use Rattle.std.proofs.lemmas.Result.{err_from_is_err_and}
use Rattle.text.specs.declared.kind.PlanKind.TheVariants.{Positions}
use Rattle.plan.proofs.Verdicts.{accepted, refused_took, no_fault, held_with}
use Rattle.plan.proofs.Holding.{listing_is, listing_fault, listing_held}
use Rattle.plan.proofs.draft.Draft.take_positions.Goals as goal

pub returns-in_err-gate : goal.returns-in_err-gate
returns-in_err-gate c = λ ps h.
    let e = err_from_is_err_and c.from_residual.result c.from_residual.ensures.1 in
    refused_took _ ps _ c.lists-again.result c.read_positions-given.result _ c.in_err-gate.field-0.0 c.from_residual.result
    c.in_err-gate.ensures
    (listing_fault c.args.self.now ps h _ c.requires c.lists-again.result c.read_positions-given.result (c.lists-again.ensures ps h) c.read_positions-given.ensures)
    (e.1 ∙ ap Err e.2)

pub returns : goal.returns
returns c = λ ps h.
    let a = accepted c.args.field.now.place c.lists-again.result c.read_positions-given.result _ c.in_ok-gate.field-0 c.in_ok-gate.ensures in
    let is = listing_is c.args.field.now.payload.now c.args.self.now.plan.gates c.args.self.now.plan.width c.in_ok-gate.field-0 (sym a.1 ∙ c.read_positions-given.ensures) in (
      no_fault ps _ c.lists-again.result c.read_positions-given.result _ c.in_ok-gate.field-0 c.in_ok-gate.ensures
          (listing_fault c.args.self.now ps h _ c.requires c.lists-again.result c.read_positions-given.result (c.lists-again.ensures ps h) c.read_positions-given.ensures),
      held_with _ ps _ Positions c.requires (listing_held c.args.self.now ps h _ c.requires c.in_ok-gate.field-0 is c.args.self.now.plan.few_gates (sym (c.lists-again.ensures ps h) ∙ a.0) _
          refl refl refl refl (search rules) refl refl),
    )
