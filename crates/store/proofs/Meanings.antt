-- Laws of what the stores mean, and of filters of 0, 1, ..
use Rattle.std.proofs.Common.{◌≡◌, ℕ, zero, suc, ◌+◌, ◌<◌, ◌≤◌, Bool, false, cond, List, [], ◌∷◌, ◌++◌, filter, sym, refl, ap, ◌∙◌, subst, ⊎_elim, add-zero, add-one, arith}
use mathlib.Core.Path.{fun_ext}
use Rattle.std.specs.List.{range_with_len, AllByRecursion as All}
use Rattle.std.proofs.lemmas.List.{append-nil, append_assoc}
use Rattle.std.proofs.lemmas.Bool.{eq-eqb, ne_eqb, cases_eq}
use Rattle.std.proofs.lemmas.List.Elements.{filter-append}
use Rattle.std.proofs.ByRecursion.{all_kept_by, All-append, All-weaker}
use Rattle.model.specs.Families.{has}
use Rattle.store.specs.Meaning.{Meaning, changed_at, appended}
use Rattle.store.proofs.Members.{has_above}

pub counting_more : (a n : ℕ) → range_with_len a (n + 1) ≡ range_with_len a n ++ ((a + n) ∷ [])
counting_more a zero = rw (add-zero)
counting_more a (suc n) =
    let e : a + 1 + n ≡ a + suc n = omega arith in
    rw (add-one) (ap (λ l. a ∷ l) (ap (range_with_len (a + 1)) (sym (add-one n)) ∙ counting_more (a + 1) n ∙ ap (λ k. range_with_len (a + 1) n ++ (k ∷ [])) e))

pub counting_below : (n : ℕ) → All (λ x. x < n) (range_with_len 0 n)
counting_below zero = tt
counting_below (suc n) =
    let e : range_with_len 0 (suc n) ≡ range_with_len 0 n ++ (n ∷ []) = ap (range_with_len 0) (sym (add-one n)) ∙ counting_more 0 n ∙ ap (λ k. range_with_len 0 n ++ (k ∷ [])) (omega arith) in
    subst (All (λ x. x < suc n)) (sym e) (All-append (λ x. x < suc n) (range_with_len 0 n) (n ∷ []) (All-weaker (λ x. x < n) (λ x. x < suc n) (λ x h. omega arith) (range_with_len 0 n) (counting_below n)) (omega arith, tt))

-- a filter of 0, 1, .. one step on
module _ (t : ℕ → Bool) where
  pub kept_next : (i : ℕ) → filter t (range_with_len 0 (i + 1)) ≡ filter t (range_with_len 0 i) ++ cond (t i) (i ∷ []) []
  kept_next i =
      let z : 0 + i ≡ i = omega arith in
      ap (filter t) (counting_more 0 i ∙ ap (λ k. range_with_len 0 i ++ (k ∷ [])) z) ∙ filter-append t (range_with_len 0 i) (i ∷ [])

  pub kept_apart : (i p : ℕ) → i ≤ p → has (filter t (range_with_len 0 i)) p ≡ false
  kept_apart i p h = has_above p i (filter t (range_with_len 0 i)) h (all_kept_by t (λ x. x < i) (range_with_len 0 i) (counting_below i))

-- a function changed at one place
pub at_same : {A : Type 0} (f : ℕ → A) (g : ℕ) (x : A) → changed_at f g x g ≡ x
at_same f g x = rw (eq-eqb g g refl)

pub at_other : {A : Type 0} (f : ℕ → A) (g h : ℕ) (x : A) → (h ≡ g → ⊥) → changed_at f g x h ≡ f h
at_other f g h x ne = rw (ne_eqb h g ne)

pub appended_nil : (m : Meaning) (g : ℕ) → appended m g [] ≡ m
appended_nil m g =
    let p : changed_at m.gone g (m.gone g ++ []) ≡ m.gone = fun_ext (λ h. ⊎_elim
    (λ (e : h ≡ g). let P : changed_at m.gone g (m.gone g ++ []) h ≡ m.gone h = rw (e) (at_same m.gone g (m.gone g ++ []) ∙ append-nil (m.gone g)) in P)
    (λ ne. at_other m.gone g h (m.gone g ++ []) ne)
    (cases_eq h g)) in
    λ i. record { cells = m.cells; gates = m.gates; width = m.width; gone = p i; marks = m.marks }

pub appended_appended : (m : Meaning) (g : ℕ) (xs ys : List ℕ) → appended (appended m g xs) g ys ≡ appended m g (xs ++ ys)
appended_appended m g xs ys =
    let f = changed_at m.gone g (m.gone g ++ xs) in
    let p : changed_at f g (f g ++ ys) ≡ changed_at m.gone g (m.gone g ++ (xs ++ ys)) = fun_ext (λ h. ⊎_elim
    (λ (e : h ≡ g). let P : changed_at f g (f g ++ ys) h ≡ changed_at m.gone g (m.gone g ++ (xs ++ ys)) h =
    rw (e) (at_same f g (f g ++ ys) ∙ ap (λ l. l ++ ys) (at_same m.gone g (m.gone g ++ xs)) ∙ append_assoc (m.gone g) xs ys ∙ sym (at_same m.gone g (m.gone g ++ (xs ++ ys)))) in P)
    (λ ne. at_other f g h (f g ++ ys) ne ∙ at_other m.gone g h (m.gone g ++ xs) ne ∙ sym (at_other m.gone g h (m.gone g ++ (xs ++ ys)) ne))
    (cases_eq h g)) in
    λ i. record { cells = m.cells; gates = m.gates; width = m.width; gone = p i; marks = m.marks }

pub same_meaning : (a b : Meaning) → a.cells ≡ b.cells → a.gates ≡ b.gates → a.width ≡ b.width → ((h : ℕ) → a.gone h ≡ b.gone h) → a.marks ≡ b.marks → a ≡ b
same_meaning a b p q r s t = λ i. record { cells = p i; gates = q i; width = r i; gone = λ h. s h i; marks = t i }
