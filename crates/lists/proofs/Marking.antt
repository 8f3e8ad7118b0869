-- Rows of marks.
use Rattle.std.proofs.Common.{◌≡◌, ℕ, zero, suc, ◌+◌, ◌-◌, ◌<◌, ◌≤◌, Bool, true, false, cond, ◌||◌, eqb, List, [], ◌∷◌, ◌++◌, length, filter, get_or, take, drop, set, replicate, Some, None, Result, sym, refl, ap, ◌∙◌, ⊎_elim, add-one, arith, length-append, length-drop, take_all}
use Rattle.std.specs.List.{range_with_len, list_all}
use Rattle.std.specs.Result.{result_unwrap_or}
use Rattle.std.proofs.lemmas.List.FromFn.{length-range_with_len, get_or-range_with_len}
use Rattle.std.proofs.lemmas.List.Filters.{length-filter_more}
use Rattle.std.proofs.lemmas.List.Sums.{AllPass-from_list_all, list_all-from_AllPass}
use Rattle.std.proofs.lemmas.List.{append_assoc, drop_more, get_or-set_same, get_or-set_other, get_or-drop, get_or_past, take_more}
use Rattle.std.proofs.lemmas.Bool.{eq-eqb, ne_eqb, cases_eq, cases_lt, or_right}
use Rattle.model.specs.Families.{has}
use Rattle.model.proofs.Meaning.{has_append}
use Rattle.model.specs.Bounds.{most_width}
use Rattle.model.specs.Ledgers.{ascending}
use Rattle.model.specs.declared.refusal.Refusal.{Refusal}
use Rattle.store.specs.Meaning.{Meaning, Sound}
use Rattle.store.specs.Calls.{Count}
use Rattle.store.proofs.Counts.{gone_short, left_is}
use Rattle.lists.specs.Lists.{marked, Written}

pub ascending_more : (w : ℕ) (t : ℕ → Bool) → ascending (w + 1) t ≡ ascending w t ++ cond (t w) (w ∷ []) []
ascending_more w t = ap (λ (n : ℕ). ascending n t) (add-one w)

pub ascending_hit : (w : ℕ) (t : ℕ → Bool) → t w ≡ true → ascending (w + 1) t ≡ ascending w t ++ (w ∷ [])
ascending_hit w t e = ascending_more w t ∙ ap (λ (b : Bool). ascending w t ++ cond b (w ∷ []) []) e

append_none : (xs : List ℕ) → xs ++ [] ≡ xs
append_none [] = refl
append_none (x ∷ xs) = ap (λ (ys : List ℕ). x ∷ ys) (append_none xs)

pub ascending_miss : (w : ℕ) (t : ℕ → Bool) → t w ≡ false → ascending (w + 1) t ≡ ascending w t
ascending_miss w t e = ascending_more w t ∙ ap (λ (b : Bool). ascending w t ++ cond b (w ∷ []) []) e ∙ append_none (ascending w t)

pub ascending_grows : (t : ℕ → Bool) (v w : ℕ) → v ≤ w → length (ascending v t) ≤ length (ascending w t)
ascending_grows t v zero h = let e : v ≡ 0 = omega arith in omega (arith, ap (λ (n : ℕ). length (ascending n t)) e)
ascending_grows t v (suc w) h =
    ⊎_elim {C = length (ascending v t) ≤ length (ascending (suc w) t)}
    (λ (e : v ≡ suc w). omega (arith, ap (λ (n : ℕ). length (ascending n t)) e))
    (λ (ne : v ≡ suc w → ⊥). let i = ascending_grows t v w (omega arith) in let j = length-append (ascending w t) (cond (t w) (w ∷ []) []) in omega arith)
    (cases_eq v (suc w))

set_at : (xs : List ℕ) (y v : ℕ) (ys : List ℕ) → set (xs ++ (y ∷ ys)) (length xs) v ≡ xs ++ (v ∷ ys)
set_at [] y v ys = refl
set_at (x ∷ xs) y v ys = ap (λ (zs : List ℕ). x ∷ zs) (set_at xs y v ys)

-- one number more at the front of a list
pub set_front : (xs list : List ℕ) (k v : ℕ) → k ≡ length xs → k < length list → set (xs ++ drop k list) k v ≡ (xs ++ (v ∷ [])) ++ drop (k + 1) list
set_front xs list k v e h =
    ap (λ (ys : List ℕ). set (xs ++ ys) k v) (drop_more list k 0 h)
    ∙ ap (λ (n : ℕ). set (xs ++ (get_or list k 0 ∷ drop (k + 1) list)) n v) e
    ∙ set_at xs (get_or list k 0) v (drop (k + 1) list)
    ∙ sym (append_assoc xs (v ∷ []) (drop (k + 1) list))

pub with_false : (a : Bool) → (a || false) ≡ a
with_false true = refl
with_false false = refl

-- one mark more
module _ (row : List Bool) (xs : List ℕ) (from k : ℕ) where
  pub mark_more : length row ≡ most_width → from ≤ k → k < length xs → get_or xs k 0 < most_width
      → ((p : ℕ) → p < most_width → get_or row p false ≡ has (take (k - from) (drop from xs)) p)
      → (p : ℕ) → p < most_width → get_or (set row (get_or xs k 0) true) p false ≡ has (take (k + 1 - from) (drop from xs)) p
  mark_more size h l small old p lp =
      let i = k - from in
      let v = get_or xs k 0 in
      let n : k + 1 - from ≡ i + 1 = omega arith in
      let at : get_or (drop from xs) i 0 ≡ v = get_or-drop from xs i 0 ∙ ap (λ (j : ℕ). get_or xs j 0) (omega arith) in
      let inside : i < length (drop from xs) = omega (arith, length-drop from xs) in
      let new : has (take (k + 1 - from) (drop from xs)) p ≡ (has (take i (drop from xs)) p || (eqb p v || false)) =
      ap (λ (j : ℕ). has (take j (drop from xs)) p) n
      ∙ ap (λ (ys : List ℕ). has ys p) (take_more (drop from xs) i 0 inside)
      ∙ has_append (take i (drop from xs)) (get_or (drop from xs) i 0 ∷ []) p
      ∙ ap (λ (j : ℕ). has (take i (drop from xs)) p || (eqb p j || false)) at in
      ⊎_elim
      (λ (e : p ≡ v).
      ap (λ (j : ℕ). get_or (set row v true) j false) e ∙ get_or-set_same row v true false (omega arith)
      ∙ sym (new ∙ or_right (has (take i (drop from xs)) p) (eqb p v || false) (ap (λ (b : Bool). b || false) (eq-eqb p v e))))
      (λ (ne : p ≡ v → ⊥).
      get_or-set_other row v p true false ne ∙ old p lp
      ∙ sym (new ∙ ap (λ (b : Bool). has (take i (drop from xs)) p || (b || false)) (ne_eqb p v ne) ∙ with_false (has (take i (drop from xs)) p)))
      (cases_eq p v)

pub ascending_short : (w : ℕ) (t : ℕ → Bool) → length (ascending w t) ≤ w
ascending_short zero t = omega arith
ascending_short (suc w) t = let i = ascending_short w t in let j = length-append (ascending w t) (cond (t w) (w ∷ []) []) in let k = one (t w) in omega arith
  where
    one : (b : Bool) → length (cond b (w ∷ []) []) ≤ 1
    one true = omega arith
    one false = omega arith

pub all_false : (n p : ℕ) → get_or (replicate n false) p false ≡ false
all_false zero p = refl
all_false (suc n) zero = refl
all_false (suc n) (suc p) = all_false n p

-- how many places a row marks
pub marked_count : (row : List Bool) (w : ℕ) → length (filter (λ b. b) (take w row)) ≡ length (marked row w)
marked_count row zero = refl
marked_count row (suc w) =
    let i = marked_count row w in
    let j : length (marked row (suc w)) ≡ length (marked row w) + length (cond (get_or row w false) (w ∷ []) []) = length-append (marked row w) (cond (get_or row w false) (w ∷ []) []) in
    ap (λ (n : ℕ). length (filter (λ b. b) (take n row))) (sym (add-one w))
    ∙ ⊎_elim
    (λ (l : w < length row). let k = length-filter_more (λ b. b) row w false l in let o = one (get_or row w false) in omega arith)
    (λ (l : length row ≤ w).
    let k = ap (λ (xs : List Bool). length (filter (λ b. b) xs)) (take_all (w + 1) row (omega arith) ∙ sym (take_all w row l)) in
    let o = ap (λ (b : Bool). length (cond b (w ∷ []) [])) (get_or_past row w false l) in
    omega arith)
    (cases_lt w (length row))
  where
    one : (b : Bool) → length (cond b (w ∷ []) []) ≡ cond b 1 0
    one true = refl
    one false = refl

-- what a test of 0, 1, .. below w says
pub all_range : (w : ℕ) (t : ℕ → Bool) → list_all t (range_with_len 0 w) ≡ true → (p : ℕ) → p < w → t p ≡ true
all_range w t e p l = ap t (sym at) ∙ AllPass-from_list_all t (range_with_len 0 w) e p 0 (omega (arith, length-range_with_len 0 w))
  where
    at : get_or (range_with_len 0 w) p 0 ≡ p
    at = get_or-range_with_len 0 w p 0 l ∙ (let z : 0 + p ≡ p = omega arith in z)

pub range_all : (w : ℕ) (t : ℕ → Bool) → ((p : ℕ) → p < w → t p ≡ true) → list_all t (range_with_len 0 w) ≡ true
range_all w t all = list_all-from_AllPass t (range_with_len 0 w) (λ p d l.
    let k : p < w = omega (arith, l, length-range_with_len 0 w) in
    ap t (get_or-range_with_len 0 w p d k ∙ (let z : 0 + p ≡ p = omega arith in z)) ∙ all p k)

-- what is left to a gate, or the width where there is no such gate, and what has left it
pub left_and_gone : (m : Meaning) (g : ℕ) (r : Result ℕ Refusal) → Sound m → Count m g r → result_unwrap_or r m.width + length (m.gone g) ≡ m.width
left_and_gone m g r s k =
    ⊎_elim
    (λ (h : g < m.gates).
    let e = ap (λ (x : Result ℕ Refusal). result_unwrap_or x m.width) (k.answer h) in
    let left = left_is m s g h in
    let short = gone_short m s g in
    omega arith)
    (λ (h : m.gates ≤ g).
    let e = ap (λ (x : Result ℕ Refusal). result_unwrap_or x m.width) (k.gate h) in
    let none = ap length (s.outside g h) in
    omega arith)
    (cases_lt g m.gates)

-- what a written list says
pub written_some : (xs list : List ℕ) (n : ℕ) (after : List ℕ) → Written xs list (Some n) after
    → (length xs ≤ length list) × (n ≡ length xs) × (after ≡ xs ++ drop (length xs) list)
written_some xs list n after h =
    ⊎_elim
    (λ (l : length list < length xs). let e = (h.short l).0 in let z : ◌≡◌ {A = ℕ} 0 1 = cc in absurd (omega arith))
    (λ (l : length xs ≤ length list). let e = (h.fits l).0 in let z : n ≡ length xs = cc in (l, z, (h.fits l).1))
    (cases_lt (length list) (length xs))

pub written_none : (xs list after : List ℕ) → Written xs list None after → (length list < length xs) × (after ≡ list)
written_none xs list after h =
    ⊎_elim
    (λ (l : length list < length xs). (l, (h.short l).1))
    (λ (l : length xs ≤ length list). let e = (h.fits l).0 in let z : ◌≡◌ {A = ℕ} 0 1 = cc in absurd (omega arith))
    (cases_lt (length list) (length xs))
