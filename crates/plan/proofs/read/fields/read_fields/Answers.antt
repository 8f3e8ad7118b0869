use Rattle.std.proofs.Common.{◌≡◌, true, false, Ok, Err, ap, ◌∙◌, rules}
use Rattle.std.proofs.lemmas.Result.{err_from_is_err_and}
use Rattle.text.specs.Fields.{part}
use Rattle.text.specs.Readers.{place_of}
use Rattle.plan.specs.Plans.{plan_field, is_end}
use Rattle.plan.specs.Drafts.{seen_plan}
use Rattle.plan.proofs.Readings.{refuses, takes, finishes, fails}
use Rattle.plan.proofs.read.fields.read_fields.Goals as goal

pub returns-in_err-field : goal.returns-in_err-field
returns-in_err-field c =
    let e = err_from_is_err_and c.from_residual-in_err-field.result c.from_residual-in_err-field.ensures.1 in
    let t = c.loop-field.invariant.0 in
    let v = c.in_err-field.ensures.value in
    let is : plan_field c.args.text.now (place_of c.loop-field.reader) ≡ Err c.in_err-field.field-0.0 = cc in
    ap seen_plan (e.1 ∙ ap Err e.2) ∙ refuses c.args.text.now _ c.loop-field.draft c.loop-field.invariant.1 _ is

pub returns-in_err-take : goal.returns-in_err-take
returns-in_err-take c =
    let e = err_from_is_err_and c.from_residual-in_err-take.result c.from_residual-in_err-take.ensures.1 in
    let t = c.loop-field.invariant.0 in
    let u = c.loop-field.invariant.1 in
    let v = c.in_ok-field.ensures.value in
    let is : plan_field c.args.text.now (place_of c.loop-field.reader) ≡ Ok (part c.in_ok-field.field) = cc in
    ap seen_plan (e.1 ∙ ap Err e.2) ∙ fails c.args.text.now _ c.loop-field.draft u _ is c.take.new.self _ (c.in_err-take.ensures u.fields u.held)

pub returns-then-eq : goal.returns-then-eq
returns-then-eq c =
    let t = c.loop-field.invariant.0 in
    let u = c.loop-field.invariant.1 in
    let v = c.in_ok-field.ensures.value in
    let is : plan_field c.args.text.now (place_of c.loop-field.reader) ≡ Ok (part c.in_ok-field.field) = cc in
    let end : is_end c.in_ok-field.field.kind ≡ true = search rules in
    finishes c.args.text.now _ c.loop-field.draft u _ is c.take.new.self _ (c.place.ensures ∙ c.in_ok-field.ensures.at) end (c.in_ok-take.ensures u.fields u.held)

pub loop-field-preserved : goal.loop-field-preserved
loop-field-preserved c =
    let t = c.loop-field.invariant.0 in
    let u = c.loop-field.invariant.1 in
    let v = c.in_ok-field.ensures.value in
    let is : plan_field c.args.text.now (place_of c.loop-field.reader) ≡ Ok (part c.in_ok-field.field) = cc in
    let q = c.if-eq.ensures in
    let more : is_end c.in_ok-field.field.kind ≡ false = search rules in (
      c.in_ok-field.ensures.text ∙ t,
      takes c.args.text.now _ c.loop-field.draft u _ is c.take.new.self _ c.in_ok-field.ensures.at more (c.in_ok-take.ensures u.fields u.held),
    )
