-- What save and restore make of a store.
use Rattle.std.proofs.Common.{◌≡◌, ℕ, zero, suc, ◌+◌, ◌-◌, ◌<◌, ◌≤◌, List, [], ◌∷◌, length, get_or, take, set, sym, refl, ap, ◌∙◌, ⊎_elim, add-one, arith}
use mathlib.Core.Path.{fun_ext}
use Rattle.std.proofs.lemmas.List.{get_or-set_same, get_or-set_other}
use Rattle.std.proofs.lemmas.Bool.{cases_lt}
use Rattle.model.specs.Bounds.{most_marks}
use Rattle.store.specs.Meaning.{saved, restored, cut}
use Rattle.store.proofs.Meanings.{same_meaning}
use Rattle.sparse.specs.Arrays.{cell, row, gone_at, mark_of, marks_of}
use Rattle.sparse.specs.Meanings.{drawn, meaning}
use Rattle.sparse.specs.Soundness.{gone_in, gone_out, length_gone, mark_in, mark_out}
use Rattle.sparse.proofs.Spans.{take_span}
use Rattle.sparse.specs.declared.Sparse.{Sparse}

marks_set : (n w : ℕ) (marks : List (List ℕ)) (i : ℕ) (r : List ℕ) (d : ℕ) → d ≤ i → marks_of n w (set marks i r) d ≡ marks_of n w marks d
marks_set n w marks i r zero h = refl
marks_set n w marks i r (suc d) h =
    ap (λ x. mark_of n w x ∷ marks_of n w (set marks i r) d) (get_or-set_other marks i d r [] (λ q. omega arith))
    ∙ ap (λ l. mark_of n w (row marks d) ∷ l) (marks_set n w marks i r d (omega arith))

marks_pop : (n w : ℕ) (marks : List (List ℕ)) (d : ℕ) → 0 < d → marks_of n w marks d ≡ mark_of n w (row marks (d - 1)) ∷ marks_of n w marks (d - 1)
marks_pop n w marks zero h = absurd (omega arith)
marks_pop n w marks (suc d) h = let e : d ≡ suc d - 1 = omega arith in ap (λ k. mark_of n w (row marks k) ∷ marks_of n w marks k) e

module _ (s : Sparse) where
  abbrev dom : List ℕ
  dom = s.cells.dom.now

  abbrev map : List ℕ
  map = s.cells.map.now

  -- a mark more
  module _ (room : s.depth < most_marks) (r : List ℕ) (is : r ≡ s.size) where
    row_new : row (set s.marks s.depth r) s.depth ≡ s.size
    row_new = get_or-set_same s.marks s.depth r [] (omega (arith, s.table.1)) ∙ is

    save_mark : mark_of s.gates s.width s.size ≡ (λ h. length ((meaning s).gone h))
    save_mark = fun_ext (λ h. ⊎_elim
        (λ (b : h < s.gates). mark_in s.gates s.width s.size h b ∙ sym (length_gone s.gates s.width dom s.size h b))
        (λ (b : s.gates ≤ h). mark_out s.gates s.width s.size h b ∙ sym (ap length (gone_out s.gates s.width dom s.size h b)))
        (cases_lt h s.gates))

    save_marks : marks_of s.gates s.width (set s.marks s.depth r) (s.depth + 1) ≡ (λ h. length ((meaning s).gone h)) ∷ marks_of s.gates s.width s.marks s.depth
    save_marks =
        let marks' = set s.marks s.depth r in
        ap (marks_of s.gates s.width marks') (add-one s.depth)
        ∙ ap (λ x. x ∷ marks_of s.gates s.width marks' s.depth) (ap (mark_of s.gates s.width) row_new ∙ save_mark)
        ∙ ap (λ l. (λ h. length ((meaning s).gone h)) ∷ l) (marks_set s.gates s.width s.marks s.depth r s.depth (omega arith))

    pub save_means : drawn dom map s.gates s.width s.size (set s.marks s.depth r) (s.depth + 1) ≡ saved (meaning s)
    save_means = same_meaning _ _ refl refl refl (λ h. refl) save_marks

  -- back to the newest mark
  module _ (some : 0 < s.depth) (r : List ℕ) (is : r ≡ row s.marks (s.depth - 1)) where
    newest_means : drawn dom map s.gates s.width (row s.marks (s.depth - 1)) s.marks (s.depth - 1) ≡ restored (meaning s)
    newest_means =
        let d = s.depth - 1 in
        let r = row s.marks d in
        let k : ℕ → ℕ = mark_of s.gates s.width r in
        same_meaning _ (cut (meaning s) (k ∷ marks_of s.gates s.width s.marks d)) refl refl refl
        (λ h. ⊎_elim
        (λ (b : h < s.gates).
        gone_in s.gates s.width dom r h b
        ∙ sym (take_span (cell dom s.width h) (get_or s.size h 0) (get_or r h 0) s.width (s.since h d b (omega arith)) (s.within h d b (omega arith)))
        ∙ ap (λ x. take x (gone_at dom s.width h (get_or s.size h 0))) (sym (mark_in s.gates s.width r h b))
        ∙ ap (take (k h)) (sym (gone_in s.gates s.width dom s.size h b)))
        (λ (b : s.gates ≤ h).
        gone_out s.gates s.width dom r h b
        ∙ ap (λ x. take x []) (sym (mark_out s.gates s.width r h b))
        ∙ ap (take (k h)) (sym (gone_out s.gates s.width dom s.size h b)))
        (cases_lt h s.gates))
        refl
        ∙ ap (cut (meaning s)) (sym (marks_pop s.gates s.width s.marks s.depth some))

    pub restore_means : drawn dom map s.gates s.width r s.marks (s.depth - 1) ≡ restored (meaning s)
    restore_means = ap (λ x. drawn dom map s.gates s.width x s.marks (s.depth - 1)) is ∙ newest_means
