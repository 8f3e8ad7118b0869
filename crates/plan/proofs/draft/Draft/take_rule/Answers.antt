use Rattle.std.proofs.Common.{false, leb, Err, sym, refl, ap, ◌∙◌, rules}
use Rattle.std.specs.Option.{option_map}
use Rattle.std.proofs.lemmas.Result.{err_from_is_err_and}
use Rattle.model.specs.Bounds.{most_rules}
use Rattle.model.specs.Rules.{rule_of}
use Rattle.text.specs.declared.kind.PlanKind.TheVariants.{Rule}
use Rattle.plan.proofs.Verdicts.{accepted, refused_took, no_fault, held_with}
use Rattle.plan.proofs.Holding.{rule_fault, rule_held}
use Rattle.plan.proofs.draft.Draft.take_rule.Goals as goal

pub returns-in_err-rule : goal.returns-in_err-rule
returns-in_err-rule c = λ ps h.
    let e = err_from_is_err_and c.from_residual.result c.from_residual.ensures.1 in
    let full = leb most_rules c.args.self.now.plan.count in
    refused_took _ ps _ false c.read_rule-given.result full c.in_err-rule.field-0.0 c.from_residual.result
    c.in_err-rule.ensures
    (rule_fault c.args.self.now ps h _ c.args.kind c.requires c.args.self.now.plan.few_rules c.read_rule-given.result full c.read_rule-given.ensures refl)
    (e.1 ∙ ap Err e.2)

pub returns : goal.returns
returns c = λ ps h.
    let full = leb most_rules c.args.self.now.plan.count in
    let a = accepted c.args.field.now.place false c.read_rule-given.result full c.in_ok-rule.rule c.in_ok-rule.ensures in (
      no_fault ps _ false c.read_rule-given.result full c.in_ok-rule.rule c.in_ok-rule.ensures
          (rule_fault c.args.self.now ps h _ c.args.kind c.requires c.args.self.now.plan.few_rules c.read_rule-given.result full c.read_rule-given.ensures refl),
      held_with _ ps _ (Rule c.args.kind) c.requires (rule_held c.args.self.now ps h _ c.args.kind c.requires c.args.self.now.plan.few_rules c.in_ok-rule.rule _
          (ap (option_map rule_of) (sym a.1) ∙ c.read_rule-given.ensures) (search rules) refl refl refl refl refl refl),
    )
