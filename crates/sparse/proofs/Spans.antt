-- Places lo .. hi - 1 of a gate, listed from the last down.
use Rattle.std.proofs.Common.{◌≡◌, ℕ, ◌-◌, ◌<◌, ◌≤◌, true, false, [], ◌∷◌, ◌++◌, map, length, take, sym, ap, subst, ◌∙◌, ⊎_elim, arith}
use Rattle.std.specs.List.{range_with_len}
use Rattle.std.proofs.lemmas.List.{ext_get_or, length-append, get_or_append_left, get_or-append_right, take_at}
use Rattle.std.proofs.lemmas.Bool.{cases_lt}
use Rattle.model.specs.Families.{has}
use Rattle.store.proofs.Members.{has_at, has_none, has_where}
use Rattle.sparse.specs.Arrays.{span, Perm}
use Rattle.sparse.specs.Spans.{length_span, get_or_span}

pub span_none : (D : ℕ → ℕ) (lo hi : ℕ) → hi ≤ lo → span D lo hi ≡ []
span_none D lo hi h = let e : hi - lo ≡ 0 = omega arith in ap (λ n. map (λ k. D (hi - 1 - k)) (range_with_len 0 n)) e

pub span_one : (D : ℕ → ℕ) (c : ℕ) → 0 < c → span D (c - 1) c ≡ D (c - 1) ∷ []
span_one D c h =
    let e : c - (c - 1) ≡ 1 = omega arith in
    let z : c - 1 - 0 ≡ c - 1 = omega arith in
    ap (λ k. map (λ k. D (c - 1 - k)) (range_with_len 0 k)) e ∙ ap (λ k. D k ∷ []) z

pub span_same : (D E : ℕ → ℕ) (lo hi : ℕ) → ((k : ℕ) → lo ≤ k → k < hi → D k ≡ E k) → span D lo hi ≡ span E lo hi
span_same D E lo hi h =
    let lD = length_span D lo hi in
    let lE = length_span E lo hi in
    ext_get_or 0 (span D lo hi) (span E lo hi) (lD ∙ sym lE)
    (λ i l. let b : i < hi - lo = omega arith in get_or_span D lo hi i b ∙ h (hi - 1 - i) (omega arith) (omega arith) ∙ sym (get_or_span E lo hi i b))

pub span_split : (D : ℕ → ℕ) (lo mid hi : ℕ) → lo ≤ mid → mid ≤ hi → span D lo hi ≡ span D mid hi ++ span D lo mid
span_split D lo mid hi p q =
    let l = length_span D lo hi in
    let l₁ = length_span D mid hi in
    let l₂ = length_span D lo mid in
    let la = length-append (span D mid hi) (span D lo mid) in
    ext_get_or 0 (span D lo hi) (span D mid hi ++ span D lo mid) (omega arith)
    (λ i b. let c : i < hi - lo = omega arith in
    ⊎_elim
    (λ (s : i < hi - mid).
    let t : i < length (span D mid hi) = omega arith in
    get_or_span D lo hi i c ∙ sym (get_or_append_left (span D mid hi) (span D lo mid) 0 i t ∙ get_or_span D mid hi i s))
    (λ (s : hi - mid ≤ i).
    let e : hi - 1 - i ≡ mid - 1 - (i - (hi - mid)) = omega arith in
    get_or_span D lo hi i c ∙ ap D e
    ∙ sym (get_or-append_right (span D mid hi) (span D lo mid) (hi - mid) i 0 l₁ s ∙ get_or_span D lo mid (i - (hi - mid)) (omega arith)))
    (cases_lt i (hi - mid)))

pub take_span : (D : ℕ → ℕ) (lo mid hi : ℕ) → lo ≤ mid → mid ≤ hi → take (hi - mid) (span D lo hi) ≡ span D mid hi
take_span D lo mid hi p q =
    ap (take (hi - mid)) (span_split D lo mid hi p q) ∙ take_at (span D mid hi) (span D lo mid) (hi - mid) (length_span D mid hi)

module _ (w : ℕ) (D M : ℕ → ℕ) (perm : Perm w D M) (lo hi : ℕ) (top : hi ≤ w) where
  pub span_has : (p : ℕ) → p < w → lo ≤ M p → M p < hi → has (span D lo hi) p ≡ true
  span_has p b l u =
      let n = length_span D lo hi in
      let i : hi - 1 - (hi - 1 - M p) ≡ M p = omega arith in
      has_at p (span D lo hi) (hi - 1 - M p) (omega arith) (get_or_span D lo hi (hi - 1 - M p) (omega arith) ∙ ap D i ∙ (perm.1 p b).1)

  pub span_where : (p : ℕ) → has (span D lo hi) p ≡ true → (p < w) × (lo ≤ M p) × (M p < hi)
  span_where p h =
      let n = length_span D lo hi in
      let f = has_where p (span D lo hi) h in
      let i = f.0 in
      let b : i < hi - lo = omega (arith, f.1) in
      let k : hi - 1 - i < w = omega arith in
      let e : D (hi - 1 - i) ≡ p = sym (get_or_span D lo hi i b) ∙ f.2 in
      let m : M p ≡ hi - 1 - i = sym (ap M e) ∙ (perm.0 (hi - 1 - i) k).1 in
      let pw : p < w = subst (λ x. x < w) e (perm.0 (hi - 1 - i) k).0 in
      (pw, omega arith, omega arith)

  pub span_lacks : (p : ℕ) → ((lo ≤ M p) → (M p < hi) → ⊥) → has (span D lo hi) p ≡ false
  span_lacks p h = has_none p (span D lo hi) (λ i l e. let r = span_where p (has_at p (span D lo hi) i l e) in h r.1 r.2)
