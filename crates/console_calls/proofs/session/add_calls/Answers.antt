use Rattle.std.proofs.Common.{◌≡◌, ℕ, ◌≤◌, List, [], ◌++◌, length, string_bytes, sym, refl, ap, ◌∙◌, subst, inr, arith}
use Rattle.std.proofs.lemmas.List.{append-nil}
use Rattle.std.proofs.lemmas.Result.{on_ok_weaker}
use Rattle.text.specs.Readers.{place_of}
use Rattle.text.specs.Fields.{part, field_at}
use Rattle.planner.specs.States.{state}
use Rattle.console_calls.specs.Calls.{call_kind}
use Rattle.console.specs.Lines.{stop_line}
use Rattle.console_calls.specs.Sessions.{IsCall, Goes, starts}
use Rattle.console_calls.proofs.Sessions.{allowed, goes_on, adds_both}
use Rattle.console_calls.proofs.session.add_calls.Goals as goal

pub loop-reader-init : goal.loop-reader-init
loop-reader-init g c =
    let input = c.args.input.now in
    let at : place_of c.at-reader.result ≡ c.args.read = c.at-reader.ensures.at ∙ (omega arith) in (
      c.at-reader.ensures.text,
      omega (arith, at),
      λ load h. (
        h,
        (
          [],
          sym (append-nil (string_bytes c.args.out.now)),
          let s = state c.args.planner.now in
              subst (λ (k : ℕ). Goes load.plan input s c.args.read s k []) (sym at) starts,
        ),
      ),
    )

pub add_call-requires : goal.add_call-requires
add_call-requires g c =
    allowed c.args.input.now (place_of c.loop-reader.reader) (part c.in-Ok.field)
    (ap (λ (t : List ℕ). field_at call_kind t (place_of c.loop-reader.reader)) (sym c.loop-reader.invariant.0) ∙ sym c.in-Ok.ensures.value)

pub loop-reader-preserved : goal.loop-reader-preserved
loop-reader-preserved g c =
    let input = c.args.input.now in
    let inv = c.loop-reader.invariant in
    let text = c.next.ensures.text ∙ inv.0 in
    let from = place_of c.loop-reader.reader in
    let is : IsCall input from (part c.in-Ok.field) = ap (λ (t : List ℕ). field_at call_kind t from) (sym inv.0) ∙ sym c.in-Ok.ensures.value in
    let at = c.in-Ok.ensures.at in (
      text,
      subst (λ (t : List ℕ). place_of c.next.new.self ≤ length t) text c.next.new.self.inside,
      λ load h.
          let so = inv.2 load h in
          let one = c.in_ok-add_call-in-Ok.ensures load so.0 in
          let line = one.1 in
          let out = so.1 in (
            one.0,
            (
              out.0 ++ line.0,
              adds_both (string_bytes c.args.out.now) (string_bytes c.loop-reader.out) (string_bytes c.add_call.new.out) out.0 line.0 out.1 line.1,
              subst (λ (k : ℕ). Goes load.plan input (state c.args.planner.now) c.args.read (state c.add_call.new.planner) k (out.0 ++ line.0))
                  (sym at)
                  (goes_on load.plan input (state c.args.planner.now) (state c.loop-reader.planner) (state c.add_call.new.planner)
                  c.args.read from out.0 line.0 (part c.in-Ok.field) out.2 is line.2),
            ),
          ),
    )

pub returns-in-Err : goal.returns-in-Err
returns-in-Err g c = on_ok_weaker c.add_stop.result (λ added load h.
    let inv = c.loop-reader.invariant in
    let from = place_of c.loop-reader.reader in
    let so = inv.2 load h in
    let out = so.1 in
    let e = c.in-Err.fault in (
      out.0 ++ stop_line e,
      adds_both (string_bytes c.args.out.now) (string_bytes c.loop-reader.out) (string_bytes c.add_stop.new.out) out.0 (stop_line e) out.1 added,
      record { last = _; at = from; lines = out.0; goes = out.2; ends = inr (omega (arith, c.place.ensures), (e, ap (λ (t : List ℕ). field_at call_kind t from) (sym inv.0) ∙ sym c.in-Err.ensures.value, refl)) },
    )) c.add_stop.ensures
