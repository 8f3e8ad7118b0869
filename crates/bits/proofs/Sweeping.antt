-- A sweep goes along a row's positions.
use Rattle.std.proofs.Common.{◌≡◌, ℕ, suc, zero, ◌+◌, ◌<◌, ◌≤◌, Bool, cond, not, ◌&&◌, ltb, [], ◌∷◌, ◌++◌, filter, Some, None, Result, sym, refl, ap, ap₂, ◌∙◌, subst, ⊎_elim, add-one, arith}
use mathlib.Core.Bool.{and-true}
use Rattle.std.specs.List.{range_with_len}
use Rattle.std.proofs.lemmas.Bool.{cases_lt, lt-ltb, le-ltb, and_from, and_left, and_right}
use Rattle.model.specs.Bounds.{most_width}
use Rattle.model.specs.Families.{has}
use Rattle.model.specs.declared.refusal.Refusal.{Refusal}
use Rattle.store.specs.Meaning.{Meaning, appended}
use Rattle.store.specs.Calls.{Strike}
use Rattle.store.proofs.Meanings.{kept_next}
use Rattle.store.proofs.Sweeps.{outs, sweep_none, sweep_jump, sweep_step}
use Rattle.rows.specs.declared.Row.{Row}
use Rattle.rows.specs.Rows.{lit, Next}
use Rattle.bits.specs.Meanings.{meaning}
use Rattle.bits.specs.declared.Bits.{Bits}

-- two tests that agree below i
filter_same : (t u : ℕ → Bool) (i : ℕ) → ((q : ℕ) → q < i → t q ≡ u q) → filter t (range_with_len 0 i) ≡ filter u (range_with_len 0 i)
filter_same t u zero h = refl
filter_same t u (suc i) h =
    one_more t ∙ ap₂ (λ l (b : Bool). l ++ cond b (i ∷ []) []) (filter_same t u i (λ q l. h q (omega arith))) (h i (omega arith)) ∙ sym (one_more u)
  where
    one_more : (v : ℕ → Bool) → filter v (range_with_len 0 (suc i)) ≡ filter v (range_with_len 0 i) ++ cond (v i) (i ∷ []) []
    one_more v = ap (λ n. filter v (range_with_len 0 n)) (sym (add-one i)) ∙ kept_next v i

module _ (s : Bits) (g : ℕ) (out : Row) where
  abbrev leaves : ℕ → Bool
  leaves q = lit out q && ltb q s.width

  -- what is struck when the walk has come to a place
  abbrev pub Swept : ℕ → Meaning → Type 0
  Swept from n = g < s.gates → n ≡ appended (meaning s) g (outs (meaning s) g leaves from)

  pub swept_none : Swept 0 (meaning s)
  swept_none = λ _. sym (sweep_none (meaning s) g leaves)

  pub swept_turn : (row : Row) → row ≡ out → (from p : ℕ) → Next row from (Some p) → (n : Meaning) → Swept from n
      → (r : Result ℕ Refusal) (m' : Meaning) → Strike n g p r m' → Swept (p + 1) m'
  swept_turn row e from p f n h r m' k = λ hg.
      let m = meaning s in
      let f' = subst (λ (x : Row). Next x from (Some p)) e f in
      let there = sweep_jump m g leaves from p f'.0 (λ q l u. and_left (lit out q) (ltb q s.width) (f'.3 q l u)) n (h hg) in
      ⊎_elim
      (λ (l : p < s.width). sweep_step m g leaves p (and_from (lit out p) (ltb p s.width) f'.2 (lt-ltb p s.width l)) hg l n there r m' k)
      (λ (l : s.width ≤ p).
      let gates : n.gates ≡ s.gates = ap (λ x. x.gates) there in
      let width : n.width ≡ s.width = ap (λ x. x.width) there in
      sweep_jump m g leaves p (p + 1) (omega arith) (λ q a b. and_right (lit out q) (ltb q s.width) (le-ltb q s.width (omega arith))) m'
      ((k.position (omega arith) (omega arith)).1 ∙ there))
      (cases_lt p s.width)

  pub swept_all : (row : Row) → row ≡ out → (from : ℕ) → from ≤ most_width → Next row from None → (n : Meaning) → Swept from n
      → g < s.gates → n ≡ appended (meaning s) g (outs (meaning s) g (lit out) s.width)
  swept_all row e from le f n h hg =
      let m = meaning s in
      let f' = subst (λ (x : Row). Next x from None) e f in
      sweep_jump m g leaves from most_width le (λ q l u. and_left (lit out q) (ltb q s.width) (f' q l u)) n (h hg)
      ∙ sym (sweep_jump m g leaves s.width most_width s.fit.1 (λ q l u. and_right (lit out q) (ltb q s.width) (le-ltb q s.width l)) (appended m g (outs m g leaves s.width)) refl)
      ∙ ap (appended m g) (filter_same (λ q. leaves q && not (has (m.gone g) q)) (λ q. lit out q && not (has (m.gone g) q)) s.width
      (λ q l. ap (λ b. (lit out q && b) && not (has (m.gone g) q)) (lt-ltb q s.width l) ∙ ap (λ b. b && not (has (m.gone g) q)) (and-true (lit out q))))
