use Rattle.std.proofs.Common.{Some, sym, ap, ◌∙◌}
use Rattle.text.specs.declared.fault.Fault.{Fault}
use Rattle.plan.proofs.Holding.{second_head}
use Rattle.plan.proofs.draft.Draft.take_head.Goals as goal

pub returns : goal.returns
returns c = λ ps h. (
  second_head c.args.self.now ps h _ c.requires ∙ ap (λ (e : Fault). Some e.refusal) (sym c.fault.ensures),
  ap (λ (e : Fault). e.place) c.fault.ensures,
)
