-- Places lo .. hi - 1 of a gate, listed from the last down: what the soundness of a store rests on.
use Rattle.std.specs.Prelude.{◌≡◌, ℕ, ◌-◌, ◌<◌, ◌≤◌, T, length, slice_index}
use Rattle.std.proofs.Common.{sym, ap, subst, ◌∙◌, arith}
use Rattle.std.proofs.lemmas.List.FromFn.{length-map-range_with_len, get_or-map-range_with_len}
use Rattle.model.specs.Planners.{Once, all_below}
use Rattle.store.proofs.Members.{apart_once, below_all}
use Rattle.sparse.specs.Arrays.{span, Perm}

pub length_span : (D : ℕ → ℕ) (lo hi : ℕ) → length (span D lo hi) ≡ hi - lo
length_span D lo hi = length-map-range_with_len (λ k. D (hi - 1 - k)) 0 (hi - lo)

pub get_or_span : (D : ℕ → ℕ) (lo hi i : ℕ) → i < hi - lo → slice_index (span D lo hi) i ≡ D (hi - 1 - i)
get_or_span D lo hi i h = get_or-map-range_with_len (λ k. D (hi - 1 - k)) 0 (hi - lo) i i 0 h (omega arith)

module _ (w : ℕ) (D M : ℕ → ℕ) (perm : Perm w D M) (lo hi : ℕ) (top : hi ≤ w) where
  pub span_once : Once (span D lo hi)
  span_once =
      let n = length_span D lo hi in
      apart_once (span D lo hi)
      (λ i j li lj e.
      let bi : i < hi - lo = omega arith in
      let bj : j < hi - lo = omega arith in
      let ki : hi - 1 - i < w = omega arith in
      let kj : hi - 1 - j < w = omega arith in
      let q : hi - 1 - i ≡ hi - 1 - j =
      sym (perm.0 (hi - 1 - i) ki).1 ∙ ap M (sym (get_or_span D lo hi i bi) ∙ e ∙ get_or_span D lo hi j bj) ∙ (perm.0 (hi - 1 - j) kj).1 in
      omega arith)

  pub span_below : T (all_below w (span D lo hi))
  span_below =
      let n = length_span D lo hi in
      below_all w (span D lo hi)
      (λ i l.
      let b : i < hi - lo = omega arith in
      subst (λ x. x < w) (sym (get_or_span D lo hi i b)) (perm.0 (hi - 1 - i) (omega arith)).0)
