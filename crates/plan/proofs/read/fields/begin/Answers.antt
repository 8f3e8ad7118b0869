use Rattle.std.proofs.Common.{◌≡◌, ◌+◌, Bool, true, false, not, length, Ok, Err, sym, refl, ap, ◌∙◌}
use Rattle.std.proofs.lemmas.Result.{err_from_is_err_and}
use Rattle.text.specs.Fields.{part}
use Rattle.text.specs.Readers.{text_of}
use Rattle.plan.specs.Plans.{plan_field, is_head}
use Rattle.plan.proofs.Verdicts.{accepted, refused_by, no_fault}
use Rattle.plan.proofs.Readings.{no_field, bad_first, first_verdict, is_head_kind, begins, refused_begun}
use Rattle.plan.proofs.read.fields.begin.Goals as goal

pub returns-in_err-first : goal.returns-in_err-first
returns-in_err-first c =
    let e = err_from_is_err_and c.from_residual.result c.from_residual.ensures.1 in
    record {
      begun = λ a.
          let text = text_of c.args.reader.now in
          let v = c.in_err-first.ensures.value in
          let is : plan_field text 0 ≡ Err c.in_err-first.field-0.0 = cc in
          refused_begun text _ _ c.from_residual.result (e.1 ∙ ap Err e.2) (no_field text _ is);
      text = c.next.ensures.text;
    }

pub returns-in_err-head : goal.returns-in_err-head
returns-in_err-head c =
    let e = err_from_is_err_and c.from_residual-in_err-head.result c.from_residual-in_err-head.ensures.1 in
    let p = part c.in_ok-first.first in
    let w = refused_by c.in_ok-first.first.place (not c.is_head.result) c.read_head.result false c.in_err-head.field-0.0 c.in_err-head.ensures in
    record {
      begun = λ a.
          let text = text_of c.args.reader.now in
          let v = c.in_ok-first.ensures.value in
          let is : plan_field text 0 ≡ Ok (part c.in_ok-first.first) = cc in
          refused_begun text _ _ c.from_residual-in_err-head.result (e.1 ∙ ap Err e.2)
          (bad_first text p c.in_err-head.field-0.0 is (first_verdict p c.is_head.result c.read_head.result c.is_head.ensures c.read_head.ensures ∙ w.0) w.1);
      text = c.next.ensures.text;
    }

un_not : (b : Bool) → not b ≡ false → b ≡ true
un_not true e = refl
un_not false e = sym e

pub returns : goal.returns
returns c =
    let p = part c.in_ok-first.first in
    let a = accepted c.in_ok-first.first.place (not c.is_head.result) c.read_head.result false c.in_ok-head.head c.in_ok-head.ensures in
    let h : is_head c.in_ok-first.first.kind ≡ true = sym c.is_head.ensures ∙ un_not c.is_head.result a.0 in
    record {
      begun = λ z.
          let text = text_of c.args.reader.now in
          let v = c.in_ok-first.ensures.value in
          let is : plan_field text 0 ≡ Ok (part c.in_ok-first.first) = cc in
          begins text p c.new.result _ is h
          (no_fault _ p (not c.is_head.result) c.read_head.result false c.in_ok-head.head c.in_ok-head.ensures
          (first_verdict p c.is_head.result c.read_head.result c.is_head.ensures c.read_head.ensures))
          (c.new.ensures p (is_head_kind c.in_ok-first.first.kind h) (sym c.read_head.ensures ∙ a.1))
          (c.in_ok-first.ensures.at ∙ ap (λ n. n + 3 + length c.in_ok-first.first.payload.now) z);
      text = c.next.ensures.text;
    }
