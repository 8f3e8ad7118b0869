-- What a sparse store means is sound.
use Rattle.std.specs.Prelude.{◌≡◌, ℕ, zero, suc, ◌-◌, ◌<◌, ◌≤◌, T, List, [], length, nat_lt, slice_index, refl}
use Rattle.std.proofs.Common.{sym, ap, subst, ◌∙◌, ⊎_elim, arith}
use Rattle.std.proofs.lemmas.Bool.{cases_lt, lt-ltb, le-ltb, cond-true, cond-false}
use Rattle.model.specs.Planners.{Once, all_below}
use Rattle.store.specs.Meaning.{Sound, Marked}
use Rattle.sparse.specs.Arrays.{cell, row, mark_of, Perm, Since, gone_at, marks_of}
use Rattle.sparse.specs.Meanings.{gone_of, meaning}
use Rattle.sparse.specs.Spans.{length_span, span_once, span_below}
use Rattle.sparse.specs.declared.Sparse.{Sparse}

module _ (n w : ℕ) (dom size : List ℕ) (g : ℕ) where
  pub gone_in : g < n → gone_of n w dom size g ≡ gone_at dom w g (slice_index size g)
  gone_in h = cond-true (nat_lt g n) (gone_at dom w g (slice_index size g)) [] (lt-ltb g n h)

  pub gone_out : n ≤ g → gone_of n w dom size g ≡ []
  gone_out h = cond-false (nat_lt g n) (gone_at dom w g (slice_index size g)) [] (le-ltb g n h)

  pub length_gone : g < n → length (gone_of n w dom size g) ≡ w - slice_index size g
  length_gone h = ap length (gone_in h) ∙ length_span (cell dom w g) (slice_index size g) w

module _ (n w : ℕ) (r : List ℕ) (h : ℕ) where
  pub mark_in : h < n → mark_of n w r h ≡ w - slice_index r h
  mark_in b = cond-true (nat_lt h n) (w - slice_index r h) 0 (lt-ltb h n b)

  pub mark_out : n ≤ h → mark_of n w r h ≡ 0
  mark_out b = cond-false (nat_lt h n) (w - slice_index r h) 0 (le-ltb h n b)

pub length_marks : (n w : ℕ) (marks : List (List ℕ)) (d : ℕ) → length (marks_of n w marks d) ≡ d
length_marks n w marks zero = refl
length_marks n w marks (suc d) = ap suc (length_marks n w marks d)

marked_of : (n w : ℕ) (dom size : List ℕ) (marks : List (List ℕ)) (depth : ℕ) → Since n size marks depth → Marked (gone_of n w dom size) (marks_of n w marks depth)
marked_of n w dom size marks zero f = tt
marked_of n w dom size marks (suc d) f = λ h. ⊎_elim
    (λ (b : h < n). omega (arith, mark_in n w (row marks d) h b, length_gone n w dom size h b, f h d b refl))
    (λ (b : n ≤ h). omega (arith, mark_out n w (row marks d) h b))
    (cases_lt h n)

pub perm : (s : Sparse) (g : ℕ) → g < s.gates → Perm s.width (cell s.cells.dom.now s.width g) (cell s.cells.map.now s.width g)
perm s g h = (λ k b. let x = s.perms (g, k, h, b) in (x.0, x.2), λ k b. let x = s.perms (g, k, h, b) in (x.1, x.3))

-- a fact of every list of places, and of none, holds of every gone list
each : (s : Sparse) (P : List ℕ → Type 0) → P [] → ((h : ℕ) → h < s.gates → P (gone_at s.cells.dom.now s.width h (slice_index s.size h)))
    → (h : ℕ) → P (gone_of s.gates s.width s.cells.dom.now s.size h)
each s P none some h =
    ⊎_elim
    (λ (b : h < s.gates). subst P (sym (gone_in s.gates s.width s.cells.dom.now s.size h b)) (some h b))
    (λ (b : s.gates ≤ h). subst P (sym (gone_out s.gates s.width s.cells.dom.now s.size h b)) none)
    (cases_lt h s.gates)

pub sound : (s : Sparse) → Sound (meaning s)
sound s =
    let dom = s.cells.dom.now in
    let D : ℕ → ℕ → ℕ = cell dom s.width in
    let M : ℕ → ℕ → ℕ = cell s.cells.map.now s.width in
    record {
      few_gates = s.room.0;
      few_positions = s.room.1;
      few_marks = omega (arith, length_marks s.gates s.width s.marks s.depth, s.table.0);
      once = each s Once tt (λ h b. span_once s.width (D h) (M h) (perm s h b) (slice_index s.size h) s.width (omega arith));
      below = each s (λ xs. T (all_below s.width xs)) tt (λ h b. span_below s.width (D h) (M h) (perm s h b) (slice_index s.size h) s.width (omega arith));
      outside = gone_out s.gates s.width dom s.size;
      marked = marked_of s.gates s.width dom s.size s.marks s.depth s.since;
    }
