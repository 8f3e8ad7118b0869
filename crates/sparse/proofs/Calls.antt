-- What strike, bind and keep make of a store.
use Rattle.std.proofs.Common.{◌≡◌, ℕ, ◌+◌, ◌-◌, ◌*◌, ◌<◌, ◌≤◌, Bool, true, false, not, eqb, ltb, List, length, get_or, set, Ok, sym, refl, ap, ◌∙◌, subst, ⊎_elim, arith}
use Rattle.std.proofs.lemmas.List.{length-set, get_or-set_same}
use Rattle.std.proofs.lemmas.Bool.{cases_lt, lt-ltb, le-ltb, eq-eqb, eqb-true}
use Rattle.model.specs.Families.{has}
use Rattle.store.specs.Calls.{Kept}
use Rattle.store.specs.Meaning.{Meaning, appended, left}
use Rattle.store.proofs.Meanings.{same_meaning}
use Rattle.sparse.specs.Arrays.{from, cell, span, gone_at, dom_swapped, map_swapped, Moved}
use Rattle.sparse.specs.Meanings.{drawn, meaning}
use Rattle.sparse.specs.Soundness.{gone_in, length_gone, perm}
use Rattle.sparse.specs.Spans.{get_or_span}
use Rattle.sparse.specs.declared.Sparse.{Sparse}
use Rattle.sparse.proofs.Fields.{Fields, fields}
use Rattle.sparse.proofs.Gates.{is_gone, is_open, gone_shrunk, set_falls, leaving, left_of}
use Rattle.sparse.proofs.Rows.{row_lt, row_whole, moved_perms, moved_stays}
use Rattle.sparse.proofs.Swaps.{at_b, swap_moved}

module _ (s : Sparse) where
  abbrev dom : List ℕ
  dom = s.cells.dom.now

  abbrev map : List ℕ
  map = s.cells.map.now

  abbrev D : ℕ → ℕ → ℕ
  D g = cell dom s.width g

  abbrev M : ℕ → ℕ → ℕ
  M g = cell map s.width g

  pub in_dom : (g k : ℕ) → g < s.gates → k < s.width → g * s.width + k < length dom
  in_dom g k hg hk = row_lt s.gates s.width g k (length dom) hg hk s.room.2

  pub in_map : (g k : ℕ) → g < s.gates → k < s.width → g * s.width + k < length map
  in_map g k hg hk = row_lt s.gates s.width g k (length map) hg hk s.room.3

  in_size : (g : ℕ) → g < s.gates → g < length s.size
  in_size g hg = omega (arith, s.sizes.0, s.room.0)

  pub row_dom : (g : ℕ) → g < s.gates → g * s.width + s.width ≤ length dom
  row_dom g hg = row_whole s.gates s.width g (length dom) hg s.room.2

  pub row_map : (g : ℕ) → g < s.gates → g * s.width + s.width ≤ length map
  row_map g hg = row_whole s.gates s.width g (length map) hg s.room.3

  -- a position is open exactly where its place is below the size
  module _ (g p : ℕ) (hg : g < s.gates) (hp : p < s.width) where
    place : M g p < s.width
    place = ((perm s g hg).1 p hp).0

    pub shut_at : get_or s.size g 0 ≤ M g p → has ((meaning s).gone g) p ≡ true
    shut_at = is_gone s.gates s.width dom map s.size g hg (perm s g hg) p hp

    pub open_at : M g p < get_or s.size g 0 → has ((meaning s).gone g) p ≡ false
    open_at = is_open s.gates s.width dom map s.size g hg (perm s g hg) p hp

    pub open_test : ltb (M g p) (get_or s.size g 0) ≡ not (has ((meaning s).gone g) p)
    open_test =
        ⊎_elim
        (λ (h : M g p < get_or s.size g 0). lt-ltb (M g p) (get_or s.size g 0) h ∙ sym (ap not (open_at h)))
        (λ (h : get_or s.size g 0 ≤ M g p). le-ltb (M g p) (get_or s.size g 0) h ∙ sym (ap not (shut_at h)))
        (cases_lt (M g p) (get_or s.size g 0))

  pub left_now : (g : ℕ) → g < s.gates → get_or s.size g 0 ≡ left (meaning s) g
  left_now g hg = left_of (meaning s) g (get_or s.size g 0) (D g) (M g) (perm s g hg) hg (s.sizes.1 g hg) (gone_in s.gates s.width dom s.size g hg)

  pub length_of_gone : (g : ℕ) → g < s.gates → length ((meaning s).gone g) ≡ s.width - get_or s.size g 0
  length_of_gone = length_gone s.gates s.width dom s.size

  pub gone_from_last : (g k : ℕ) → g < s.gates → k < s.width - get_or s.size g 0 → get_or ((meaning s).gone g) k 0 ≡ D g (s.width - 1 - k)
  gone_from_last g k hg hk = ap (λ xs. get_or xs k 0) (gone_in s.gates s.width dom s.size g hg) ∙ get_or_span (D g) (get_or s.size g 0) s.width k hk

  -- gate g arranged anew, and c' of its positions kept
  module _ (g : ℕ) (hg : g < s.gates) (dom' map' : List ℕ) (x : Moved (g * s.width) s.width (get_or s.size g 0) dom map dom' map') (c' : ℕ) (le : c' ≤ get_or s.size g 0) where
    abbrev m' : Meaning
    m' = drawn dom' map' s.gates s.width (set s.size g c') s.marks s.depth

    pub moved_fields : Fields dom' map' s.gates s.width (set s.size g c') s.marks s.depth
    moved_fields =
        let falls = λ (h : ℕ). set_falls s.size g c' h (in_size g hg) le in
        fields dom' map' s.gates s.width (set s.size g c') s.marks s.depth
        (s.room.0, s.room.1, omega (arith, x.dom_long, s.room.2), omega (arith, x.map_long, s.room.3))
        (moved_perms s.width g (get_or s.size g 0) dom map dom' map' x s.gates (perm s))
        (length-set s.size g c' ∙ s.sizes.0, λ h hh. omega (arith, falls h, s.sizes.1 h hh))
        s.table s.fall (λ h d hh e. omega (arith, falls h, s.since h d hh e)) s.within

    pub moved_means : m' ≡ appended (meaning s) g (span (cell dom' s.width g) c' (get_or s.size g 0))
    moved_means =
        same_meaning _ _ (omega (arith, x.dom_long, x.map_long)) refl refl
        (gone_shrunk s.gates s.width g c' dom dom' s.size hg (in_size g hg) (s.sizes.1 g hg) le
        (moved_stays s.width g (get_or s.size g 0) dom map dom' map' x))
        refl

    moved_left : c' ≡ left m' g
    moved_left =
        left_of m' g c' (cell dom' s.width g) (cell map' s.width g) x.perm hg (omega (arith, s.sizes.1 g hg))
        (gone_in s.gates s.width dom' (set s.size g c') g hg ∙ ap (gone_at dom' s.width g) (get_or-set_same s.size g c' 0 (in_size g hg)))

    -- the c' that are kept are those that pass the test
    pub moved_kept : (t : ℕ → Bool) → ((q : ℕ) → q < s.width → cell map' s.width g q < get_or s.size g 0 → t q ≡ true → cell map' s.width g q < c')
        → ((q : ℕ) → q < s.width → cell map' s.width g q < c' → t q ≡ true) → Kept (meaning s) g t (Ok c') m'
    moved_kept t stays only = (
      span (cell dom' s.width g) c' (get_or s.size g 0),
      leaving (meaning s) g (D g) (M g) (cell dom' s.width g) (cell map' s.width g) (get_or s.size g 0) c' (perm s g hg) x.perm (s.sizes.1 g hg)
          (gone_in s.gates s.width dom s.size g hg) x.tail t stays only,
      moved_means,
      ap Ok moved_left,
    )

  -- nothing moved
  still : (g : ℕ) → g < s.gates → Moved (g * s.width) s.width (get_or s.size g 0) dom map dom map
  still g hg = record { perm = perm s g hg; dom_long = refl; map_long = refl; dom_frame = λ j o. refl; map_frame = λ j o. refl; tail = λ k l h. refl }

  -- gate g bound to a position that is gone
  pub clear_kept : (g p : ℕ) (hg : g < s.gates) → get_or s.size g 0 ≤ M g p → Kept (meaning s) g (λ q. eqb q p) (Ok 0) (drawn dom map s.gates s.width (set s.size g 0) s.marks s.depth)
  clear_kept g p hg out =
      moved_kept g hg dom map (still g hg) 0 (omega arith) (λ q. eqb q p)
      (λ q b h e. let j : M g q ≡ M g p = ap (M g) (eqb-true q p e) in absurd (omega arith))
      (λ q b h. absurd (omega arith))

  -- the position at a place of gate g, whose cells begin at base
  pub position_room : (g k base : ℕ) → g < s.gates → k < s.width → base ≡ g * s.width → base + from dom base k < length map
  position_room g k base hg hk begins = subst (λ x. x + from dom x k < length map) (sym begins) (in_map g (D g k) hg ((perm s g hg).0 k hk).0)

  -- place a of gate g, where p stands, and place b exchanged
  module _ (g p b base a : ℕ) (hg : g < s.gates) (hp : p < s.width) (begins : base ≡ g * s.width) (stands : a ≡ M g p) (la : a < get_or s.size g 0) (lb : b < get_or s.size g 0)
      (dom' map' : List ℕ) (e : dom' ≡ dom_swapped dom base a b) (f : map' ≡ map_swapped dom map base a b) where
    ha : a < s.width
    ha = omega (arith, place g p hg hp)

    hb : b < s.width
    hb = omega (arith, s.sizes.1 g hg)

    e' : dom' ≡ dom_swapped dom (g * s.width) a b
    e' = e ∙ ap (λ x. dom_swapped dom x a b) begins

    f' : map' ≡ map_swapped dom map (g * s.width) a b
    f' = f ∙ ap (λ x. map_swapped dom map x a b) begins

    pub swapped : Moved (g * s.width) s.width (get_or s.size g 0) dom map dom' map'
    swapped = swap_moved (g * s.width) s.width a b dom map dom' map' (perm s g hg) ha hb (row_dom g hg) (row_map g hg) e' f' (get_or s.size g 0) la lb

    pub swap_at : cell dom' s.width g b ≡ p
    swap_at = at_b (g * s.width) s.width a b dom map dom' map' (perm s g hg) ha hb (row_dom g hg) (row_map g hg) e' f' ∙ ap (D g) stands ∙ ((perm s g hg).1 p hp).1

    -- p alone kept, at place 0
    pub bind_kept : b ≡ 0 → Kept (meaning s) g (λ q. eqb q p) (Ok 1) (drawn dom' map' s.gates s.width (set s.size g 1) s.marks s.depth)
    bind_kept z =
        let P' = swapped.perm in
        let D' = cell dom' s.width g in
        let M' = cell map' s.width g in
        let h0 : D' 0 ≡ p = ap D' (sym z) ∙ swap_at in
        let m0 : M' p ≡ 0 = ap M' (sym h0) ∙ (P'.0 0 (omega arith)).1 in
        moved_kept g hg dom' map' swapped 1 (omega arith) (λ q. eqb q p)
        (λ q b h e. let i : q ≡ p = eqb-true q p e in let j : M' q ≡ 0 = ap M' i ∙ m0 in omega arith)
        (λ q b h. let j : M' q ≡ 0 = omega arith in eq-eqb q p (sym (P'.1 q b).1 ∙ ap D' j ∙ h0))
