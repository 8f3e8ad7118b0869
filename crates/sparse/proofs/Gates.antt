-- What the arrays of a sparse store say of its meaning.
use Rattle.std.proofs.Common.{◌≡◌, ℕ, ◌<◌, ◌≤◌, Bool, true, false, not, List, ◌++◌, length, get_or, set, sym, ap, ◌∙◌, subst, ⊎_elim, arith}
use Rattle.std.proofs.lemmas.List.{get_or-set_same, get_or-set_other}
use Rattle.std.proofs.lemmas.Bool.{cases_eq, cases_lt, cases_Bool, both_ways}
use Rattle.model.specs.Families.{has}
use Rattle.model.specs.Ledgers.{ascending}
use Rattle.store.specs.Meaning.{Meaning, changed_at, left}
use Rattle.store.specs.Calls.{Leaving}
use Rattle.store.proofs.Counts.{left_count, domain_is}
use Rattle.store.proofs.Meanings.{at_same, at_other}
use Rattle.sparse.specs.Arrays.{cell, span, Perm, gone_at}
use Rattle.sparse.specs.Meanings.{gone_of}
use Rattle.sparse.specs.Soundness.{gone_in, gone_out}
use Rattle.sparse.specs.Spans.{length_span, span_once, span_below}
use Rattle.sparse.proofs.Spans.{span_same, span_split, span_has, span_where, span_lacks}

-- open exactly where the place is below the count
module _ (n w : ℕ) (dom map size : List ℕ) (g : ℕ) (hg : g < n) (perm : Perm w (cell dom w g) (cell map w g)) (p : ℕ) (hp : p < w) where
  pub is_gone : get_or size g 0 ≤ cell map w g p → has (gone_of n w dom size g) p ≡ true
  is_gone h = ap (λ l. has l p) (gone_in n w dom size g hg) ∙ span_has w (cell dom w g) (cell map w g) perm (get_or size g 0) w (omega arith) p hp h (perm.1 p hp).0

  pub is_open : cell map w g p < get_or size g 0 → has (gone_of n w dom size g) p ≡ false
  is_open h = ap (λ l. has l p) (gone_in n w dom size g hg) ∙ span_lacks w (cell dom w g) (cell map w g) perm (get_or size g 0) w (omega arith) p (λ l u. omega arith)

-- gate g shrunk to c' positions, in an arrangement that keeps the places from the count on, and the other gates
module _ (n w g c' : ℕ) (dom dom' size : List ℕ) (hg : g < n) (hl : g < length size) (hc : get_or size g 0 ≤ w) (le : c' ≤ get_or size g 0)
    (kept : (h k : ℕ) → k < w → (h ≡ g → get_or size g 0 ≤ k) → cell dom' w h k ≡ cell dom w h k) where
  pub gone_shrunk : (h : ℕ) → gone_of n w dom' (set size g c') h ≡ changed_at (gone_of n w dom size) g (gone_of n w dom size g ++ span (cell dom' w g) c' (get_or size g 0)) h
  gone_shrunk h =
      let c = get_or size g 0 in
      let F = gone_of n w dom size in
      let x = F g ++ span (cell dom' w g) c' c in
      let G : ℕ → Type 0 = λ y. gone_of n w dom' (set size g c') y ≡ changed_at F g x y in
      let here : G g =
      gone_in n w dom' (set size g c') g hg
      ∙ ap (λ y. gone_at dom' w g y) (get_or-set_same size g c' 0 hl)
      ∙ span_split (cell dom' w g) c' c w le hc
      ∙ ap (λ l. l ++ span (cell dom' w g) c' c)
      (span_same (cell dom' w g) (cell dom w g) c w (λ k l u. kept g k u (λ _. l)) ∙ sym (gone_in n w dom size g hg))
      ∙ sym (at_same F g x) in
      ⊎_elim
      (λ (e : h ≡ g). subst G (sym e) here)
      (λ (ne : h ≡ g → ⊥). ⊎_elim
      (λ (b : h < n).
      gone_in n w dom' (set size g c') h b
      ∙ ap (λ y. gone_at dom' w h y) (get_or-set_other size g h c' 0 ne)
      ∙ span_same (cell dom' w h) (cell dom w h) (get_or size h 0) w (λ k l u. kept h k u (λ e. absurd (ne e)))
      ∙ sym (gone_in n w dom size h b) ∙ sym (at_other F g h x ne))
      (λ (b : n ≤ h). gone_out n w dom' (set size g c') h b ∙ sym (gone_out n w dom size h b) ∙ sym (at_other F g h x ne))
      (cases_lt h n))
      (cases_eq h g)

-- a smaller entry keeps what bounds the entries from above
pub set_falls : (xs : List ℕ) (i v h : ℕ) → i < length xs → v ≤ get_or xs i 0 → get_or (set xs i v) h 0 ≤ get_or xs h 0
set_falls xs i v h l b =
    ⊎_elim
    (λ (e : h ≡ i). let G : ℕ → Type 0 = λ x. get_or (set xs i v) x 0 ≤ get_or xs x 0 in subst G (sym e) (subst (λ y. y ≤ get_or xs i 0) (sym (get_or-set_same xs i v 0 l)) b))
    (λ (ne : h ≡ i → ⊥). omega (arith, get_or-set_other xs i h v 0 ne))
    (cases_eq h i)

-- a gate with c places of its domain has c positions left
pub left_of : (m : Meaning) (g c : ℕ) (D M : ℕ → ℕ) → Perm m.width D M → g < m.gates → c ≤ m.width → m.gone g ≡ span D c m.width → c ≡ left m g
left_of m g c D M P hg hc was =
    let w = m.width in
    let n = left_count w (span D c w) (span_once w D M P c w (omega arith)) (span_below w D M P c w (omega arith)) in
    let j = ap length (domain_is m g hg ∙ ap (λ xs. ascending w (λ p. not (has xs p))) was) in
    omega (arith, length_span D c w)

-- what leaves when the places from c' on are let go
module _ (m : Meaning) (g : ℕ) (D M D' M' : ℕ → ℕ) (c c' : ℕ) (P : Perm m.width D M) (P' : Perm m.width D' M') (hc : c ≤ m.width)
    (was : m.gone g ≡ span D c m.width) (kept : (k : ℕ) → c ≤ k → k < m.width → D' k ≡ D k)
    (t : ℕ → Bool) (stays : (q : ℕ) → q < m.width → M' q < c → t q ≡ true → M' q < c') (only : (q : ℕ) → q < m.width → M' q < c' → t q ≡ true) where
  -- below c before, below c after
  down : (q : ℕ) → q < m.width → M q < c → M' q < c
  down q b h = ⊎_elim (λ (x : M' q < c). x)
      (λ (x : c ≤ M' q). let e : M q ≡ M' q = sym (ap M (sym (kept (M' q) x (P'.1 q b).0) ∙ (P'.1 q b).1)) ∙ (P.0 (M' q) (P'.1 q b).0).1 in omega arith)
      (cases_lt (M' q) c)

  up : (q : ℕ) → q < m.width → M' q < c → M q < c
  up q b h = ⊎_elim (λ (x : M q < c). x)
      (λ (x : c ≤ M q). let e : M' q ≡ M q = sym (ap M' (kept (M q) x (P.1 q b).0 ∙ (P.1 q b).1)) ∙ (P'.0 (M q) (P.1 q b).0).1 in omega arith)
      (cases_lt (M q) c)

  open_below : (q : ℕ) → q < m.width → has (m.gone g) q ≡ false → M q < c
  open_below q b f = ⊎_elim (λ (x : M q < c). x)
      (λ (x : c ≤ M q). absurd (both_ways (has (m.gone g) q) f (ap (λ l. has l q) was ∙ span_has m.width D M P c m.width (omega arith) q b x (P.1 q b).0)))
      (cases_lt (M q) c)

  pub leaving : Leaving m g t (span D' c' c)
  leaving = record {
    once = span_once m.width D' M' P' c' c hc;
    those = λ q b f k. span_has m.width D' M' P' c' c hc q b (⊎_elim (λ (x : M' q < c'). absurd (both_ways (t q) k (only q b x))) (λ x. x) (cases_lt (M' q) c')) (down q b (open_below q b f));
    below = λ q h. (span_where m.width D' M' P' c' c hc q h).0;
    opened = λ q h. let r = span_where m.width D' M' P' c' c hc q h in
        let u = up q r.0 r.2 in
        ap (λ l. has l q) was ∙ span_lacks m.width D M P c m.width (omega arith) q (λ l _. omega arith);
    others = λ q h. let r = span_where m.width D' M' P' c' c hc q h in
        ⊎_elim (λ (e : t q ≡ true). absurd (let z = stays q r.0 r.2 e in omega (arith, r.1))) (λ (e : t q ≡ false). e) (cases_Bool (t q));
  }
