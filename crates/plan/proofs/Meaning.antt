-- The reading of a text is what it means, and a text means one thing.
use Rattle.std.proofs.Common.{◌≡◌, ℕ, zero, suc, ◌+◌, ◌≤◌, Bool, true, false, ◌⊎◌, List, [], ◌∷◌, ◌++◌, length, Some, None, Ok, Err, Option, Result, sym, refl, ap, ◌∙◌, subst, inl, inr, arith}
use Rattle.model.specs.declared.refusal.Refusal.{Refusal}
use Rattle.text.specs.declared.fault.Fault.{Fault}
use Rattle.text.specs.Fields.{refused, next_at}
use Rattle.plan.specs.Plans.{Field, plan_field, is_end, load_in, fault, Reading, read_from, plan_text}
use Rattle.plan.specs.Meanings.{Clean, start, more, Fails, Means, MeansOnly}
use Rattle.plan.proofs.Readings.{nothing_left, stands, stops, faulty, ended, goes_at, goes_on}

by_reader : (text : List ℕ) (at : ℕ) (ps : List Field) (e : Fault) → Clean text ps at → plan_field text at ≡ Err e → Fails text e
by_reader text at ps e c f =
    let p = (stands text at).err e f in
    record { fields = ps; clean = subst (λ (a : ℕ). Clean text ps a) (sym p) c; here = inl (ap (plan_field text) p ∙ f) }

by_field : (text : List ℕ) (at : ℕ) (ps : List Field) (p : Field) (why : Refusal) → Clean text ps at → plan_field text at ≡ Ok p → fault ps p ≡ Some why → Means text (refused why at)
by_field text at ps p why c f g = record { fields = ps; clean = c; here = inr (p, f, g) }

means_from : (k : ℕ) (text : List ℕ) (at : ℕ) (ps : List Field) → length text ≤ k + at → Clean text ps at → Means text (read_from k text at ps)
means_from zero text at ps h c =
    let f = nothing_left text at (omega arith) in
    subst (Means text) (sym (stops zero text at ps _ h f)) (by_reader text at ps _ c f)
means_from (suc k) text at ps h c = field (λ a qs. means_from k text a qs) (plan_field text at) refl
  where
    Next : Type 0
    Next = (a : ℕ) (qs : List Field) → length text ≤ k + a → Clean text qs a → Means text (read_from k text a qs)

    ending : Next → (p : Field) → plan_field text at ≡ Ok p → fault ps p ≡ None → (b : Bool) → is_end p.kind ≡ b → Means text (read_from (suc k) text at ps)
    ending next p f g true e =
        subst (Means text) (sym (ended (suc k) text at ps p h f g e))
        (record { fields = ps; at = at; end = p; clean = c; here = f; ends = e; faultless = g; load = refl; read = refl })
    ending next p f g false e =
        subst (Means text) (sym (goes_at k text at ps p f g e)) (next (next_at (Ok p) at) (ps ++ (p ∷ [])) (omega arith) (more p c f g e))

    judged : Next → (p : Field) → plan_field text at ≡ Ok p → (o : Option Refusal) → fault ps p ≡ o → Means text (read_from (suc k) text at ps)
    judged next p f (Some why) g = subst (Means text) (sym (faulty (suc k) text at ps p why h f g)) (by_field text at ps p why c f g)
    judged next p f None g = ending next p f g (is_end p.kind) refl

    field : Next → (r : Result Field Fault) → plan_field text at ≡ r → Means text (read_from (suc k) text at ps)
    field next (Ok p) f = judged next p f (fault ps p) refl
    field next (Err e) f = subst (Means text) (sym (stops (suc k) text at ps e h f)) (by_reader text at ps e c f)

-- clean fields are those that the reading goes through
pub record GoesThrough (text : List ℕ) (ps : List Field) (at : ℕ) : Type 0 where
  pub turns : ℕ
  pub enough : length text ≤ turns + at
  pub same : read_from turns text at ps ≡ plan_text text

goes_through : (text : List ℕ) {ps : List Field} {at : ℕ} → Clean text ps at → GoesThrough text ps at
goes_through text start = record { turns = length text; enough = omega arith; same = refl }
goes_through text (more {ps = ps} {at = at} p c here faultless end) =
    let g = goes_through text c in
    let m = goes_on g.turns text at ps p g.enough here faultless end in
    record { turns = m.0; enough = m.1; same = sym m.2 ∙ g.same }

one_meaning : (text : List ℕ) (r : Result Reading Fault) → Means text r → r ≡ plan_text text
one_meaning text (Ok r) m =
    let g = goes_through text m.clean in
    let reads : ◌≡◌ {A = Result Reading Fault} (Ok r) (Ok (record { load = load_in m.fields; read = next_at (Ok m.end) m.at })) = λ i. Ok (record { load = m.load i; read = m.read i }) in
    reads ∙ (sym (ended g.turns text m.at m.fields m.end g.enough m.here m.faultless m.ends) ∙ g.same)
one_meaning text (Err e) m = go m.here
  where
    g : GoesThrough text m.fields e.place
    g = goes_through text m.clean

    go : (plan_field text e.place ≡ Err e) ⊎ ((p : Field) × (plan_field text e.place ≡ Ok p) × (fault m.fields p ≡ Some e.refusal)) → Err e ≡ plan_text text
    go (inl f) = sym (stops g.turns text e.place m.fields e g.enough f) ∙ g.same
    go (inr f) = sym (faulty g.turns text e.place m.fields f.0 e.refusal g.enough f.1 f.2) ∙ g.same

pub means_only : (text : List ℕ) → MeansOnly text (plan_text text)
means_only text = record { means = means_from (length text) text 0 [] (omega arith) start; nothing_else = one_meaning text }
