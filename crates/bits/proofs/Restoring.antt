-- The trail goes back to a mark, record by record.
use Rattle.std.proofs.Common.{◌≡◌, ℕ, suc, ◌+◌, ◌-◌, ◌<◌, ◌≤◌, min, ◌||◌, eqb, List, [], ◌∷◌, ◌++◌, length, get_or, take, drop, set, sym, refl, ap, ◌∙◌, subst, ap₂, arith}
use Rattle.std.proofs.lemmas.List.{length_push, length-set, take_at, take-take}
use Rattle.model.specs.Bounds.{most_gates, most_width, most_cells}
use Rattle.stack.specs.Stacks.{room}
use Rattle.store.specs.Meaning.{Meaning, restored}
use Rattle.store.proofs.Meanings.{same_meaning}
use Rattle.store.proofs.Counts.{gone_short}
use Rattle.rows.specs.declared.Row.{Row}
use Rattle.rows.specs.Rows.{lit, Holds}
use Rattle.bits.specs.Representation.{gone_in, row_at, count_at, Listed, Apart, Tied, Counts, marks_of}
use Rattle.bits.specs.Meanings.{drawn, meaning}
use Rattle.bits.specs.Trails.{gone_front}
use Rattle.bits.specs.Soundness.{sound}
use Rattle.bits.specs.declared.domain.Domain.{Domain}
use Rattle.bits.specs.declared.entry.Record.{Record}
use Rattle.bits.specs.declared.Bits.{Bits}
use Rattle.bits.proofs.Moves.{listed_pop, listed_last, apart_pop, apart_last, tied_pop, counts_pop, marks_cut}
use Rattle.bits.proofs.Facts.{Facts, facts, on}

-- one record is taken back
module _ (s : Bits) (ys : List Record) (r : Record) (e : on s ≡ ys ++ r ∷ []) where
  here : (r.gate < s.gates) × (r.position < s.width)
  here = listed_last ys r s.gates s.width (subst (λ xs. Listed xs s.gates s.width) e s.listed)

  pub back_gate : r.gate < most_gates
  back_gate = omega (arith, here.0, s.fit.0)

  pub back_count : count_at s.domains r.gate ≤ most_width
  back_count = omega (arith, s.counts (r.gate, here.0), s.fit.1)

  kept_here : (cap : ℕ) → cap ≡ room s.trail → (row : Row) → Holds row (λ q. eqb q r.position || lit (row_at s.domains r.gate) q)
      → ((d : ℕ) → d < s.depth → get_or s.marks d 0 ≤ length ys)
      → Facts cap ys s.gates s.width (set s.domains r.gate (record { row = row; count = count_at s.domains r.gate + 1 })) s.marks s.depth
  kept_here cap ec row h top =
      let f = s.fit in
      let l = s.long in
      let g = r.gate in
      let hr : g < length s.domains = omega (arith, l.0, back_gate) in
      let d : Domain = record { row = row; count = count_at s.domains g + 1 } in
      let listed = subst (λ xs. Listed xs s.gates s.width) e s.listed in
      let apart = subst Apart e s.apart in
      let tied = subst (λ xs. Tied xs s.gates s.width s.domains) e s.tied in
      let counts = subst (λ xs. Counts xs s.gates s.width s.domains) e s.counts in
      let few = subst (λ xs. length (gone_in g xs) ≤ s.width) e (gone_short (meaning s) (sound s) g) in
      facts cap ys s.gates s.width (set s.domains g (record { row = row; count = count_at s.domains g + 1 })) s.marks s.depth
      (f.0, f.1, omega (arith, f.2), f.3)
      (length-set s.domains g d ∙ l.0, l.1)
      (listed_pop ys r s.gates s.width listed)
      (apart_pop ys r apart)
      (tied_pop ys r s.gates s.width s.domains d hr tied here.1 (apart_last ys r apart) h)
      (counts_pop ys r s.gates s.width s.domains d hr counts few here.0 refl)
      (λ x. ((s.marked x).0, top x.1 x.3))

  pub back_kept : (g : ℕ) → g ≡ r.gate → (cap : ℕ) → cap ≡ room s.trail → (row : Row) → Holds row (λ q. eqb q r.position || lit (row_at s.domains g) q)
      → ((d : ℕ) → d < s.depth → get_or s.marks d 0 ≤ length ys)
      → Facts cap ys s.gates s.width (set s.domains g (record { row = row; count = count_at s.domains g + 1 })) s.marks s.depth
  back_kept g eg cap ec row h top =
      subst (λ (v : ℕ). Facts cap ys s.gates s.width (set s.domains v (record { row = row; count = count_at s.domains v + 1 })) s.marks s.depth) (sym eg)
      (kept_here cap ec row (subst (λ (v : ℕ). Holds row (λ q. eqb q r.position || lit (row_at s.domains v) q)) eg h) top)

pub undo_top : (e s : Bits) → 0 < e.depth → s.marks ≡ e.marks → s.depth ≡ e.depth → (m : ℕ) → get_or e.marks (e.depth - 1) 0 ≤ m →
    (d : ℕ) → d < s.depth → get_or s.marks d 0 ≤ m
undo_top e s pos es ed m h d l =
    omega (arith, (e.marked (d, e.depth - 1, omega arith, omega arith)).0, ap (λ xs. get_or xs d 0) es)

pub one_less : (xs ys : List Record) (r : Record) → xs ≡ ys ++ r ∷ [] → length xs ≡ length ys + 1
one_less xs ys r e = ap length e ∙ length_push ys r

pub undo_front : (xs ys E : List Record) (r : Record) → xs ≡ ys ++ r ∷ [] → xs ≡ take (length xs) E → ys ≡ take (length ys) E
undo_front xs ys E r e f =
    let l = one_less xs ys r e in
    sym (take_at ys (r ∷ []) (length ys) refl) ∙ ap (take (length ys)) (sym e ∙ f) ∙ take-take (length ys) (length xs) E (omega arith)

-- the trail is cut back to the newest mark
gone_cut : (h k : ℕ) (xs : List Record) → gone_in h (take k xs) ≡ take (length (gone_in h (take k xs))) (gone_in h xs)
gone_cut h k xs =
    sym (ap (take (length (gone_in h (take k xs)))) (gone_front h k xs)
    ∙ take_at (gone_in h (take k xs)) (gone_in h (drop k xs)) (length (gone_in h (take k xs))) refl)

pub restore_means : (s : Bits) → 0 < s.depth → (cap : ℕ) → cap ≡ room s.trail → (xs' : List Record) → xs' ≡ take (get_or s.marks (s.depth - 1) 0) (on s) →
    (n w : ℕ) (marks : List ℕ) → n ≡ s.gates → w ≡ s.width → marks ≡ s.marks → (d : ℕ) → d ≡ s.depth - 1 →
    drawn cap xs' n w marks d ≡ restored (meaning s)
restore_means s pos cap ec xs' ex n w marks en ew es d ed =
    let k = get_or s.marks (s.depth - 1) 0 in
    let z : s.depth ≡ suc (s.depth - 1) = omega arith in
    let M : ℕ → Meaning = λ j. restored (drawn (room s.trail) (on s) s.gates s.width s.marks j) in
    same_meaning (drawn cap xs' n w marks d) (M (suc (s.depth - 1))) (ap (λ c. min c most_cells) ec) en ew
    (λ h. ap (gone_in h) ex ∙ gone_cut h k (on s))
    (ap₂ (λ ys vs. marks_of ys vs d) ex es ∙ ap (marks_of (take k (on s)) s.marks) ed
    ∙ marks_cut s.marks (on s) k (s.depth - 1) (λ e l. (s.marked (e, s.depth - 1, omega arith, omega arith)).0))
    ∙ ap M (sym z)

pub restore_kept : (s : Bits) (d : ℕ) → d ≤ s.depth → Facts (room s.trail) (on s) s.gates s.width s.domains s.marks d
restore_kept s d h =
    let f = s.fit in
    facts (room s.trail) (on s) s.gates s.width s.domains s.marks d
    (f.0, f.1, f.2, omega (arith, f.3)) s.long s.listed s.apart s.tied s.counts (λ x. s.marked (x.0, x.1, x.2, omega (arith, x.3)))
