-- The span of one gate, as positions leave.
use Rattle.std.proofs.Common.{◌≡◌, ℕ, zero, suc, ◌<◌, Bool, true, false, T, eqb, ◌⊎◌, List, [], ◌∷◌, ◌++◌, length, Some, None, Ok, Option, Result, refl, sym, ap, ◌∙◌, subst, ⊎_elim, arith}
use Rattle.std.proofs.lemmas.Bool.{cases_eq, cases_Bool, ne_eqb, or_parts, both_ways}
use Rattle.model.specs.declared.refusal.Refusal.{Refusal}
use Rattle.model.specs.Families.{has}
use Rattle.model.specs.Ledgers.{ascending}
use Rattle.model.proofs.Meaning.{has_append}
use Rattle.store.specs.Meaning.{Meaning, domains, left, appended}
use Rattle.store.specs.Calls.{Kept}
use Rattle.store.proofs.Members.{is_false, false_not, true_is}
use Rattle.store.proofs.Meanings.{at_same, at_other, appended_nil}
use Rattle.store.proofs.Domains.{open_gate, open_width, open_has, open_is}
use Rattle.model.proofs.Meaning.{ascending_agree}
use Rattle.store.proofs.Counts.{ascending_next, one_fewer}
use Rattle.bounds.specs.declared.ends.Span.{Span}
use Rattle.bounds.specs.Ends.{SpanOf, Covers}

-- some positions have left the gate
abbrev pub Narrowed : Meaning → ℕ → Meaning → Type 0
Narrowed m g m' = (xs : List ℕ) × (m' ≡ appended m g xs)

pub narrowed_strike : (m m' : Meaning) (g p : ℕ) → (m' ≡ m) ⊎ (m' ≡ appended m g (p ∷ [])) → Narrowed m g m'
narrowed_strike m m' g p e = ⊎_elim {C = Narrowed m g m'} (λ a. ([], a ∙ sym (appended_nil m g))) (λ b. (p ∷ [], b)) e

pub narrowed_kept : (m m' : Meaning) (g : ℕ) (kept : ℕ → Bool) (r : Result ℕ Refusal) → Kept m g kept r m' → Narrowed m g m'
narrowed_kept m m' g kept r k = (k.0, k.2)

-- what is open then was open before, and is not among those that left
module _ (m : Meaning) (g : ℕ) (xs : List ℕ) (q : ℕ) (t : T (domains (appended m g xs) g q)) where
  parts : (has (m.gone g) q ≡ false) × (has xs q ≡ false)
  parts =
      or_parts (has (m.gone g) q) (has xs q)
      (sym (has_append (m.gone g) xs q) ∙ sym (ap (λ (l : List ℕ). has l q) (at_same m.gone g (m.gone g ++ xs))) ∙ open_has (appended m g xs) g q t)

  open_before : T (domains m g q)
  open_before = open_is m g q (open_gate (appended m g xs) g q t) (open_width (appended m g xs) g q t) parts.0

  open_stays : has xs q ≡ false
  open_stays = parts.1

-- all that is open lies in the span
pub covers : (m : Meaning) (g : ℕ) (s : Option Span) → SpanOf m g s → Covers m g s
covers m g None k p t = both_ways (has (m.gone g) p) (open_has m g p t) (k.lowest p (open_width m g p t))
covers m g (Some s) k p t =
    let low : p < s.lowest → ⊥ = λ l. both_ways (has (m.gone g) p) (open_has m g p t) (k.lowest.2 p l) in
    let high : s.highest < p → ⊥ = λ l. both_ways (has (m.gone g) p) (open_has m g p t) (k.highest.2 p l (open_width m g p t)) in
    (omega (arith, low), omega (arith, high))

-- so it does when positions have left
pub covers_still : (m m' : Meaning) (g : ℕ) (s : Option Span) → Narrowed m g m' → SpanOf m g s → Covers m' g s
covers_still m m' g s by k p t = covers m g s k p (open_before m g by.0 p (subst (λ (x : Meaning). T (domains x g p)) by.1 t))

-- the same have left another gate
pub same_gone : (m m' : Meaning) (h : ℕ) (s : Option Span) → m'.width ≡ m.width → m'.gone h ≡ m.gone h → SpanOf m h s → SpanOf m' h s
same_gone m m' h None w e k = record {
  lowest = λ q b. ap (λ (l : List ℕ). has l q) e ∙ k.lowest q (omega arith);
  highest = λ q b. ap (λ (l : List ℕ). has l q) e ∙ k.highest q (omega arith);
}
same_gone m m' h (Some s) w e k = record {
  lowest = (omega (arith, k.lowest.0), ap (λ (l : List ℕ). has l s.lowest) e ∙ k.lowest.1, λ q b. ap (λ (l : List ℕ). has l q) e ∙ k.lowest.2 q b);
  highest = (omega (arith, k.highest.0), ap (λ (l : List ℕ). has l s.highest) e ∙ k.highest.1, λ q l b. ap (λ (l : List ℕ). has l q) e ∙ k.highest.2 q l (omega arith));
}

pub beside : (m m' : Meaning) (g h : ℕ) (s : Option Span) → Narrowed m g m' → (h ≡ g → ⊥) → SpanOf m h s → SpanOf m' h s
beside m m' g h s by ne k =
    same_gone m m' h s (ap (λ (x : Meaning). x.width) by.1) (ap (λ (x : Meaning). x.gone h) by.1 ∙ at_other m.gone g h (m.gone g ++ by.0) ne) k

none_pass : (w : ℕ) → length (ascending w (λ _. false)) ≡ 0
none_pass zero = refl
none_pass (suc w) = let i = none_pass w in let n = ascending_next w (λ _. false) in omega arith

-- what a bind leaves open
module _ (m m' : Meaning) (g p a : ℕ) (k : Kept m g (λ q. eqb q p) (Ok a) m') where
  only : (q : ℕ) → T (domains m' g q) → q ≡ p
  only q t =
      let t' = subst (λ (x : Meaning). T (domains x g q)) k.2 t in
      let was = open_before m g k.0 q t' in
      ⊎_elim (λ (e : q ≡ p). e)
      (λ (ne : q ≡ p → ⊥). absurd (both_ways (has k.0 q) (open_stays m g k.0 q t') (k.1.those q (open_width m g q was) (open_has m g q was) (ne_eqb q p ne))))
      (cases_eq q p)

  gone_where : (q : ℕ) → g < m'.gates → q < m'.width → (T (domains m' g q) → ⊥) → has (m'.gone g) q ≡ true
  gone_where q l b shut =
      ⊎_elim (λ (e : has (m'.gone g) q ≡ true). e) (λ (e : has (m'.gone g) q ≡ false). absurd (shut (open_is m' g q l b e))) (cases_Bool (has (m'.gone g) q))

  pub bound : (s : Option Span) → g < m'.gates → (0 < a → s ≡ Some (record { lowest = p; highest = p })) → (a ≡ 0 → s ≡ None) → SpanOf m' g s
  bound s l one none =
      let d = domains m' g in
      let count : a ≡ left m' g = cc k.3 in
      let zero = none_pass m'.width in
      ⊎_elim
      (λ (e : d p ≡ true).
      let t = true_is (d p) e in
      let w = open_width m' g p t in
      let more = one_fewer m'.width d (λ _. false) p w e refl (λ q ne. sym (is_false (d q) (λ x. ne (only q x)))) in
      subst (SpanOf m' g) (sym (one (omega arith))) (record {
        lowest = (w, open_has m' g p t, λ q b. gone_where q l (omega arith) (λ x. omega (arith, only q x)));
        highest = (w, open_has m' g p t, λ q b c. gone_where q l c (λ x. omega (arith, only q x)));
      }))
      (λ (e : d p ≡ false).
      let shut : (q : ℕ) → T (d q) → ⊥ = λ q t. false_not (d p) e (subst (λ (x : ℕ). T (d x)) (only q t) t) in
      let same = ap length (ascending_agree m'.width d (λ _. false) (λ q b. is_false (d q) (shut q))) in
      subst (SpanOf m' g) (sym (none (omega arith)))
      (record { lowest = λ q b. gone_where q l b (shut q); highest = λ q b. gone_where q l b (shut q) }))
      (cases_Bool (d p))
