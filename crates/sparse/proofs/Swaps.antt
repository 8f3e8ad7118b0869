-- An exchange of two places: both arrays stay each other's inverse.
use Rattle.std.proofs.Common.{◌≡◌, ℕ, ◌+◌, ◌<◌, ◌≤◌, ◌⊎◌, List, length, get_or, set, sym, ap, ◌∙◌, subst, inl, inr, ⊎_elim, arith}
use Rattle.std.proofs.lemmas.List.{length-set, get_or-set_same, get_or-set_other}
use Rattle.std.proofs.lemmas.Bool.{cases_eq}
use Rattle.sparse.specs.Arrays.{from, Perm, dom_swapped, map_swapped, Moved}

module _ (w : ℕ) (D M D' M' : ℕ → ℕ) (a b : ℕ) (ha : a < w) (hb : b < w) (P : Perm w D M)
    (at_b : D' b ≡ D a) (at_a : (a ≡ b → ⊥) → D' a ≡ D b)
    (at_k : (k : ℕ) → k < w → (k ≡ a → ⊥) → (k ≡ b → ⊥) → D' k ≡ D k)
    (on_a : M' (D a) ≡ b) (on_b : (D a ≡ D b → ⊥) → M' (D b) ≡ a)
    (on_p : (p : ℕ) → p < w → (p ≡ D a → ⊥) → (p ≡ D b → ⊥) → M' p ≡ M p) where
  inj : (j k : ℕ) → j < w → k < w → D j ≡ D k → j ≡ k
  inj j k hj hk e = sym (P.0 j hj).1 ∙ ap M e ∙ (P.0 k hk).1

  half₀ : (k : ℕ) → k < w → (D' k < w) × (M' (D' k) ≡ k)
  half₀ k hk =
      let G : ℕ → Type 0 = λ x. (D' x < w) × (M' (D' x) ≡ x) in
      ⊎_elim
      (λ (e : k ≡ b). subst G (sym e) (subst (λ x. x < w) (sym at_b) (P.0 a ha).0, ap M' at_b ∙ on_a))
      (λ (nb : k ≡ b → ⊥). ⊎_elim
      (λ (e : k ≡ a).
      let ne : a ≡ b → ⊥ = λ q. nb (e ∙ q) in
      subst G (sym e) (subst (λ x. x < w) (sym (at_a ne)) (P.0 b hb).0, ap M' (at_a ne) ∙ on_b (λ q. ne (inj a b ha hb q))))
      (λ (na : k ≡ a → ⊥).
      let e = at_k k hk na nb in (
        subst (λ x. x < w) (sym e) (P.0 k hk).0,
        ap M' e ∙ on_p (D k) (P.0 k hk).0 (λ q. na (inj k a hk ha q)) (λ q. nb (inj k b hk hb q)) ∙ (P.0 k hk).1,
      ))
      (cases_eq k a))
      (cases_eq k b)

  half₁ : (p : ℕ) → p < w → (M' p < w) × (D' (M' p) ≡ p)
  half₁ p hp =
      let H : ℕ → Type 0 = λ m. (m < w) × (D' m ≡ p) in
      ⊎_elim
      (λ (e : p ≡ D a). subst H (sym (ap M' e ∙ on_a)) (hb, at_b ∙ sym e))
      (λ (na : p ≡ D a → ⊥). ⊎_elim
      (λ (e : p ≡ D b).
      let ne : D a ≡ D b → ⊥ = λ q. na (e ∙ sym q) in
      subst H (sym (ap M' e ∙ on_b ne)) (ha, at_a (λ q. ne (ap D q)) ∙ sym e))
      (λ (nb : p ≡ D b → ⊥).
      let t = P.1 p hp in
      subst H (sym (on_p p hp na nb)) (t.0, at_k (M p) t.0 (λ q. na (sym t.1 ∙ ap D q)) (λ q. nb (sym t.1 ∙ ap D q)) ∙ t.1))
      (cases_eq p (D b)))
      (cases_eq p (D a))

  perm_swap : Perm w D' M'
  perm_swap = (half₀, half₁)

-- two cells from base on written
module _ (xs : List ℕ) (base w a x b y : ℕ) (ha : a < w) (hb : b < w) (l : base + w ≤ length xs) where
  abbrev two : List ℕ
  two = set (set xs (base + a) x) (base + b) y

  two_b : from two base b ≡ y
  two_b = get_or-set_same (set xs (base + a) x) (base + b) y 0 (omega (arith, length-set xs (base + a) x))

  two_a : (a ≡ b → ⊥) → from two base a ≡ x
  two_a ne = get_or-set_other (set xs (base + a) x) (base + b) (base + a) y 0 (λ e. ne (omega arith)) ∙ get_or-set_same xs (base + a) x 0 (omega arith)

  two_other : (j : ℕ) → (j ≡ base + a → ⊥) → (j ≡ base + b → ⊥) → get_or two j 0 ≡ get_or xs j 0
  two_other j na nb = get_or-set_other (set xs (base + a) x) (base + b) j y 0 nb ∙ get_or-set_other xs (base + a) j x 0 na

  two_frame : (j : ℕ) → (j < base) ⊎ (base + w ≤ j) → get_or two j 0 ≡ get_or xs j 0
  two_frame j o = two_other j (λ z. ⊎_elim (λ h. omega arith) (λ h. omega arith) o) (λ z. ⊎_elim (λ h. omega arith) (λ h. omega arith) o)

  two_long : length two ≡ length xs
  two_long = length-set (set xs (base + a) x) (base + b) y ∙ length-set xs (base + a) x

-- places a and b from base on exchanged
module _ (base w a b : ℕ) (dom map dom' map' : List ℕ) (P : Perm w (from dom base) (from map base)) (ha : a < w) (hb : b < w)
    (ld : base + w ≤ length dom) (lm : base + w ≤ length map) (e : dom' ≡ dom_swapped dom base a b) (f : map' ≡ map_swapped dom map base a b) where
  abbrev D : ℕ → ℕ
  D = from dom base

  abbrev D' : ℕ → ℕ
  D' = from dom' base

  abbrev M : ℕ → ℕ
  M = from map base

  abbrev M' : ℕ → ℕ
  M' = from map' base

  hA : D a < w
  hA = (P.0 a ha).0

  hB : D b < w
  hB = (P.0 b hb).0

  -- what stood at a stands at b
  pub at_b : D' b ≡ D a
  at_b = ap (λ x. from x base b) e ∙ two_b dom base w a (D b) b (D a) ha hb ld

  at_a : (a ≡ b → ⊥) → D' a ≡ D b
  at_a ne = ap (λ x. from x base a) e ∙ two_a dom base w a (D b) b (D a) ha hb ld ne

  at_k : (k : ℕ) → k < w → (k ≡ a → ⊥) → (k ≡ b → ⊥) → D' k ≡ D k
  at_k k hk na nb = ap (λ x. from x base k) e ∙ two_other dom base w a (D b) b (D a) ha hb ld (base + k) (λ z. na (omega arith)) (λ z. nb (omega arith))

  pub on_a : M' (D a) ≡ b
  on_a = ap (λ x. from x base (D a)) f ∙ two_b map base w (D b) a (D a) b hB hA lm

  on_b : (D a ≡ D b → ⊥) → M' (D b) ≡ a
  on_b ne = ap (λ x. from x base (D b)) f ∙ two_a map base w (D b) a (D a) b hB hA lm (λ z. ne (sym z))

  on_p : (p : ℕ) → p < w → (p ≡ D a → ⊥) → (p ≡ D b → ⊥) → M' p ≡ M p
  on_p p hp na nb = ap (λ x. from x base p) f ∙ two_other map base w (D b) a (D a) b hB hA lm (base + p) (λ z. nb (omega arith)) (λ z. na (omega arith))

  -- any other position stands where it stood, or went from b to a
  pub on_other : (q : ℕ) → q < w → (q ≡ D a → ⊥) → (M' q ≡ M q) ⊎ ((M' q ≡ a) × (M q ≡ b))
  on_other q hq na =
      ⊎_elim
      (λ (z : q ≡ D b). inr (ap M' z ∙ on_b (λ y. na (z ∙ sym y)), ap M z ∙ (P.0 b hb).1))
      (λ (nb : q ≡ D b → ⊥). inl (on_p q hq na nb))
      (cases_eq q (D b))

  pub swap_moved : (count : ℕ) → a < count → b < count → Moved base w count dom map dom' map'
  swap_moved count la lb = record {
    perm = perm_swap w D M D' M' a b ha hb P at_b at_a at_k on_a on_b on_p;
    dom_long = ap length e ∙ two_long dom base w a (D b) b (D a) ha hb ld;
    map_long = ap length f ∙ two_long map base w (D b) a (D a) b hB hA lm;
    dom_frame = λ j o. ap (λ x. get_or x j 0) e ∙ two_frame dom base w a (D b) b (D a) ha hb ld j o;
    map_frame = λ j o. ap (λ x. get_or x j 0) f ∙ two_frame map base w (D b) a (D a) b hB hA lm j o;
    tail = λ k l h. at_k k h (λ z. omega arith) (λ z. omega arith);
  }
