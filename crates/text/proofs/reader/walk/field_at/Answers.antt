use Rattle.std.proofs.Common.{◌≡◌, ℕ, ◌+◌, ◌-◌, List, length, take, drop, Some, None, Ok, Err, Option, Result, refl, ap, ◌∙◌, arith, rules, MatchResult}
use Rattle.std.proofs.lemmas.Result.{err_from_is_err_and, MatchResult-weaker}
use Rattle.model.specs.declared.refusal.Refusal.{Refusal}
use Rattle.text.specs.declared.fault.Fault.{Fault}
use Rattle.text.specs.Lengths.{with_payload}
use Rattle.text.specs.Fields.{seen, prefix_at, with_kind, with_prefix, field_at}
use Rattle.text.proofs.reader.walk.field_at.Goals as goal

module _ {K : Type 0} (made : ℕ → ℕ → Result K Refusal) (text : List ℕ) (at : ℕ) where
  -- a field by its prefix, and by the kind and the payload that follow from it
  by_prefix : (pre : Option (ℕ × ℕ)) → pre ≡ prefix_at text at → with_prefix made text at pre ≡ field_at made text at
  unfolding field_at
  by_prefix pre e = ap (with_prefix made text at) e

  module _ (tag len : ℕ) (is : Some (tag, len) ≡ prefix_at text at) where
    by_kind : (kind : Result K Refusal) → kind ≡ with_payload made tag len (length text - (at + 3)) → (k : ℕ) → k ≡ len → with_kind kind at (take k (drop (at + 3) text)) ≡ field_at made text at
    by_kind kind of k same =
        ap (λ (r : Result _ Refusal). with_kind r at (take k (drop (at + 3) text))) of
        ∙ (ap (λ (n : ℕ). with_kind (with_payload made tag len (length text - (at + 3))) at (take n (drop (at + 3) text))) same ∙ by_prefix (Some (tag, len)) is)

    no_kind : (kind : Result K Refusal) (f : Fault) → MatchResult kind (λ _. ⊥) (λ e. f ≡ record { refusal = e; place = at })
        → kind ≡ with_payload made tag len (length text - (at + 3)) → Err f ≡ field_at made text at
    no_kind (Ok k) f m of = absurd m
    no_kind (Err e) f m of = ap (λ (x : Fault). Err x) m ∙ by_kind (Err e) of len refl

pub returns-in_default-clause-value : goal.returns-in_default-clause-value
returns-in_default-clause-value g c = by_prefix g.K.Kinds.made c.args.text.now c.args.place None c.in_default.ensures

pub returns-in_err-kind-clause-value : goal.returns-in_err-kind-clause-value
returns-in_err-kind-clause-value g c =
    let e = err_from_is_err_and c.from_residual.result c.from_residual.ensures.1 in
    let is = c.in-Some.ensures in
    let f = c.in_err-kind.field-0.0 in
    let m : MatchResult c.of.result (λ _. ⊥) (λ r. f ≡ record { refusal = r; place = c.args.place }) =
    MatchResult-weaker c.of.result c.in_err-kind.ensures.cases (λ x p. absurd cc) (λ r p. search rules) in
    let n = no_kind g.K.Kinds.made c.args.text.now c.args.place c.in-Some.tag c.in-Some.len is c.of.result f m c.of.ensures in
    ap seen (e.1 ∙ ap Err e.2) ∙ n

pub returns-clause-value : goal.returns-clause-value
returns-clause-value g c =
    let is = c.in-Some.ensures in
    let e : Ok c.in_ok-kind.kind ≡ c.of.result = search (rules, MatchResult-weaker) in
    by_kind g.K.Kinds.made c.args.text.now c.args.place c.in-Some.tag c.in-Some.len is (Ok c.in_ok-kind.kind) (e ∙ c.of.ensures) _ (let n = c.from.ensures in omega arith)
