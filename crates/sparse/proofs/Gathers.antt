-- One turn of gather.
use Rattle.std.proofs.Common.{◌≡◌, ℕ, ◌+◌, ◌<◌, ◌≤◌, true, false, ◌||◌, eqb, ◌⊎◌, List, [], ◌∷◌, length, get_or, take, sym, refl, ap, ◌∙◌, inl, inr, ⊎_elim, arith}
use Rattle.std.proofs.lemmas.List.{take_more}
use Rattle.std.proofs.lemmas.Bool.{cases_eq, cases_lt, or_left, or_right, or_cases, eq-eqb, eqb-true, both_ways}
use Rattle.model.specs.Families.{has}
use Rattle.model.proofs.Meaning.{has_append}
use Rattle.sparse.specs.Arrays.{from, Perm, dom_swapped, map_swapped, Moved, Gathered}
use Rattle.sparse.proofs.Swaps.{on_a, on_other, swap_moved}

-- one more of the list
module _ (list : List ℕ) (i : ℕ) (hi : i < length list) where
  more : (q : ℕ) → has (take (i + 1) list) q ≡ (has (take i list) q || has (get_or list i 0 ∷ []) q)
  more q = ap (λ l. has l q) (take_more list i 0 hi) ∙ has_append (take i list) (get_or list i 0 ∷ []) q

  more_old : (q : ℕ) → has (take i list) q ≡ true → has (take (i + 1) list) q ≡ true
  more_old q t = more q ∙ or_left (has (take i list) q) (has (get_or list i 0 ∷ []) q) t

  more_new : (q : ℕ) → q ≡ get_or list i 0 → has (take (i + 1) list) q ≡ true
  more_new q e = more q ∙ or_right (has (take i list) q) (has (get_or list i 0 ∷ []) q) (or_left (eqb q (get_or list i 0)) false (eq-eqb q (get_or list i 0) e))

  more_cases : (q : ℕ) → has (take (i + 1) list) q ≡ true → (has (take i list) q ≡ true) ⊎ (q ≡ get_or list i 0)
  more_cases q t =
      ⊎_elim (λ (a : has (take i list) q ≡ true). inl a)
      (λ (b : has (get_or list i 0 ∷ []) q ≡ true).
      ⊎_elim (λ (c : eqb q (get_or list i 0) ≡ true). inr (eqb-true q (get_or list i 0) c)) (λ (c : false ≡ true). absurd (both_ways false refl c)) (or_cases (eqb q (get_or list i 0)) false b))
      (or_cases (has (take i list) q) (has (get_or list i 0 ∷ []) q) (sym (more q) ∙ t))

module _ (base w count : ℕ) (list : List ℕ) (i r : ℕ) (dom₀ map₀ dom map : List ℕ) (hi : i < length list) (hp : get_or list i 0 < w)
    (g : Gathered base w count (take i list) r dom₀ map₀ dom map) where
  abbrev p : ℕ
  p = get_or list i 0

  abbrev M : ℕ → ℕ
  M = from map base

  pub gather_skip : (r ≤ M p → M p < count → ⊥) → Gathered base w count (take (i + 1) list) r dom₀ map₀ dom map
  gather_skip no' = record {
    moved = g.moved;
    few = g.few;
    only = λ q b h. more_old list i hi q (g.only q b h);
    stays = λ q b h t. ⊎_elim
        (λ (o : has (take i list) q ≡ true). g.stays q b h o)
        (λ (e : q ≡ p). let m : M q ≡ M p = ap M e in ⊎_elim (λ (x : M q < r). x) (λ (x : r ≤ M q). absurd (no' (omega arith) (omega arith))) (cases_lt (M q) r))
        (more_cases list i hi q t);
  }

  -- p brought from its place to place r
  module _ (hc : count ≤ w) (lo : r ≤ M p) (up : M p < count) (ld : base + w ≤ length dom) (lm : base + w ≤ length map) (dom' map' : List ℕ)
      (e : dom' ≡ dom_swapped dom base (M p) r) (f : map' ≡ map_swapped dom map base (M p) r) where
    P : Perm w (from dom base) M
    P = g.moved.perm

    hr : r < w
    hr = omega arith

    here : from dom base (M p) ≡ p
    here = (P.1 p hp).1

    abbrev M' : ℕ → ℕ
    M' = from map' base

    now_p : M' p ≡ r
    now_p = ap M' (sym here) ∙ on_a base w (M p) r dom map dom' map' P (P.1 p hp).0 hr ld lm e f

    elsewhere : (q : ℕ) → q < w → (q ≡ p → ⊥) → (M' q ≡ M q) ⊎ ((M' q ≡ M p) × (M q ≡ r))
    elsewhere q hq np = on_other base w (M p) r dom map dom' map' P (P.1 p hp).0 hr ld lm e f q hq (λ z. np (z ∙ here))

    swapped : Moved base w count dom map dom' map'
    swapped = swap_moved base w (M p) r dom map dom' map' P (P.1 p hp).0 hr ld lm e f count up (omega arith)

    pub gather_swap : Gathered base w count (take (i + 1) list) (r + 1) dom₀ map₀ dom' map'
    gather_swap = record {
      moved = record {
        perm = swapped.perm;
        dom_long = swapped.dom_long ∙ g.moved.dom_long;
        map_long = swapped.map_long ∙ g.moved.map_long;
        dom_frame = λ j o. swapped.dom_frame j o ∙ g.moved.dom_frame j o;
        map_frame = λ j o. swapped.map_frame j o ∙ g.moved.map_frame j o;
        tail = λ k l b. swapped.tail k l b ∙ g.moved.tail k l b;
      };
      few = omega arith;
      only = λ q b h. ⊎_elim
          (λ (z : q ≡ p). more_new list i hi q z)
          (λ (np : q ≡ p → ⊥).
          let P' = swapped.perm in
          let nr : M' q ≡ r → ⊥ = λ z. np (sym (P'.1 q b).1 ∙ ap (from dom' base) (z ∙ sym now_p) ∙ (P'.1 p hp).1) in
          ⊎_elim
          (λ (s : M' q ≡ M q). more_old list i hi q (g.only q b (let lt : M' q < r = omega arith in omega arith)))
          (λ s. absurd (let lt : M' q < r = omega arith in omega (arith, s.0)))
          (elsewhere q b np))
          (cases_eq q p);
      stays = λ q b h t. ⊎_elim
          (λ (z : q ≡ p). let m : M' q ≡ r = ap M' z ∙ now_p in omega arith)
          (λ (np : q ≡ p → ⊥).
          let o : has (take i list) q ≡ true = ⊎_elim (λ (x : has (take i list) q ≡ true). x) (λ (x : q ≡ p). absurd (np x)) (more_cases list i hi q t) in
          ⊎_elim
          (λ (s : M' q ≡ M q). let k = g.stays q b (omega arith) o in omega arith)
          (λ s. let k = g.stays q b (omega (arith, s.1)) o in absurd (omega (arith, s.1)))
          (elsewhere q b np))
          (cases_eq q p);
    }
