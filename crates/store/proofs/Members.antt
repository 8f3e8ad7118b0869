-- What a list has: by places, each at most once, below a bound.
use Rattle.std.proofs.Common.{◌≡◌, ℕ, zero, suc, ◌<◌, ◌≤◌, Bool, true, false, ◌||◌, T, eqb, ltb, List, [], ◌∷◌, ◌++◌, length, get_or, sym, refl, ap, ◌∙◌, ⊎_elim, arith, ltb→lt, lt→ltb}
use Rattle.std.specs.List.{AllByRecursion as All}
use Rattle.std.proofs.lemmas.Bool.{eq-eqb, ne_eqb, cases_eq, eqb-true, or_left, or_right, or_from, or_cases, or_parts, both_ways}
use Rattle.model.specs.Families.{has}
use Rattle.model.specs.Planners.{Once, all_below}
use Rattle.model.proofs.Tests.{is_true, both, left, right}
use Rattle.model.proofs.Meaning.{has_append}

pub eqb_sym : (a b : ℕ) → eqb a b ≡ eqb b a
eqb_sym a b =
    ⊎_elim (λ (e : a ≡ b). eq-eqb a b e ∙ sym (eq-eqb b a (sym e))) (λ (ne : a ≡ b → ⊥). ne_eqb a b ne ∙ sym (ne_eqb b a (λ e. ne (sym e)))) (cases_eq a b)

pub is_false : (a : Bool) → (T a → ⊥) → a ≡ false
is_false true f = absurd (f tt)
is_false false f = refl

pub false_not : (a : Bool) → a ≡ false → T a → ⊥
false_not true e t = both_ways true e refl
false_not false e t = t

pub true_is : (a : Bool) → a ≡ true → T a
true_is true e = tt
true_is false e = absurd (both_ways false refl e)

pub has_above : (p n : ℕ) (xs : List ℕ) → n ≤ p → All (λ x. x < n) xs → has xs p ≡ false
has_above p n [] h a = refl
has_above p n (x ∷ xs) h a = or_from (eqb p x) (has xs p) (ne_eqb p x (λ q. omega (arith, a.0))) (has_above p n xs h a.1)

pub has_at : (p : ℕ) (xs : List ℕ) (i : ℕ) → i < length xs → get_or xs i 0 ≡ p → has xs p ≡ true
has_at p [] i h e = absurd (omega arith)
has_at p (x ∷ xs) zero h e = or_left (eqb p x) (has xs p) (eq-eqb p x (sym e))
has_at p (x ∷ xs) (suc i) h e = or_right (eqb p x) (has xs p) (has_at p xs i (omega arith) e)

pub has_none : (p : ℕ) (xs : List ℕ) → ((i : ℕ) → i < length xs → get_or xs i 0 ≡ p → ⊥) → has xs p ≡ false
has_none p [] h = refl
has_none p (x ∷ xs) h = or_from (eqb p x) (has xs p) (ne_eqb p x (λ e. h 0 (omega arith) (sym e))) (has_none p xs (λ i l e. h (suc i) (omega arith) e))

pub has_where : (p : ℕ) (xs : List ℕ) → has xs p ≡ true → (i : ℕ) × (i < length xs) × (get_or xs i 0 ≡ p)
has_where p [] h = absurd (both_ways false refl h)
has_where p (x ∷ xs) h =
    ⊎_elim (λ (e : eqb p x ≡ true). (0, omega arith, sym (eqb-true p x e)))
    (λ (e : has xs p ≡ true). let r = has_where p xs e in (suc r.0, omega (arith, r.1), r.2))
    (or_cases (eqb p x) (has xs p) h)

-- each number once, by places
abbrev pub Apart : List ℕ → Type 0
Apart xs = (i j : ℕ) → i < length xs → j < length xs → get_or xs i 0 ≡ get_or xs j 0 → i ≡ j

pub apart_once : (xs : List ℕ) → Apart xs → Once xs
apart_once [] h = tt
apart_once (x ∷ xs) h = (
  λ t.
      let w = has_where x xs (is_true (has xs x) t) in
      let z : 0 ≡ suc w.0 = h 0 (suc w.0) (omega arith) (omega (arith, w.1)) (sym w.2) in
      omega arith,
  apart_once xs (λ i j a b e. let z : suc i ≡ suc j = h (suc i) (suc j) (omega arith) (omega arith) e in omega arith),
)

pub once_apart : (xs : List ℕ) → Once xs → Apart xs
once_apart [] o i j a b e = absurd (omega arith)
once_apart (x ∷ xs) o zero zero a b e = refl
once_apart (x ∷ xs) o zero (suc j) a b e = absurd (o.0 (true_is (has xs x) (has_at x xs j (omega arith) (sym e))))
once_apart (x ∷ xs) o (suc i) zero a b e = absurd (o.0 (true_is (has xs x) (has_at x xs i (omega arith) e)))
once_apart (x ∷ xs) o (suc i) (suc j) a b e = ap suc (once_apart xs o.1 i j (omega arith) (omega arith) e)

pub once_push : (xs : List ℕ) (p : ℕ) → Once xs → has xs p ≡ false → Once (xs ++ p ∷ [])
once_push [] p o m = (λ t. t, tt)
once_push (x ∷ xs) p o m =
    let m' = or_parts (eqb p x) (has xs p) m in (
      false_not (has (xs ++ p ∷ []) x)
          (has_append xs (p ∷ []) x ∙ or_from (has xs x) (eqb x p || false) (is_false (has xs x) o.0) (or_from (eqb x p) false (eqb_sym x p ∙ m'.0) refl)),
      once_push xs p o.1 m'.1,
    )

-- all below a bound, by places and by membership
pub below_all : (w : ℕ) (xs : List ℕ) → ((i : ℕ) → i < length xs → get_or xs i 0 < w) → T (all_below w xs)
below_all w [] h = tt
below_all w (x ∷ xs) h = both (ltb x w) (all_below w xs) (lt→ltb x w (h 0 (omega arith))) (below_all w xs (λ i l. h (suc i) (omega arith)))

pub all_below_at : (w : ℕ) (xs : List ℕ) → T (all_below w xs) → (i : ℕ) → i < length xs → get_or xs i 0 < w
all_below_at w [] t i l = absurd (omega arith)
all_below_at w (x ∷ xs) t zero l = ltb→lt x w (left (ltb x w) (all_below w xs) t)
all_below_at w (x ∷ xs) t (suc i) l = all_below_at w xs (right (ltb x w) (all_below w xs) t) i (omega arith)

pub one_not_below : (w : ℕ) (xs : List ℕ) (i : ℕ) → i < length xs → w ≤ get_or xs i 0 → all_below w xs ≡ false
one_not_below w xs i l h = is_false (all_below w xs) (λ t. let b = all_below_at w xs t i l in omega arith)
