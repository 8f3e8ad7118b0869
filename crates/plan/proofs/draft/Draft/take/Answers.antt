use Rattle.text.specs.declared.kind.PlanKind.TheVariants.{End}
use Rattle.plan.proofs.Holding.{end_fits}
use Rattle.plan.proofs.Verdicts.{held_with}
use Rattle.plan.proofs.draft.Draft.take.Goals as goal

pub returns-in-End : goal.returns-in-End
returns-in-End c = λ ps h. (end_fits c.args.self.now ps h _ c.in-End.is, held_with c.args.self.now ps _ End c.in-End.is h)
