-- What reset makes of a store.
use Rattle.std.proofs.Common.{◌≡◌, ℕ, ◌+◌, ◌-◌, ◌*◌, ◌%◌, ◌<◌, ◌≤◌, List, length, get_or, replicate, sym, refl, ap, ◌∙◌, subst, ⊎_elim, arith}
use lib.Arith.{digits_lt}
use Rattle.std.proofs.lemmas.Nat.{mod-mul-add}
use Rattle.std.proofs.lemmas.List.{length-replicate, get_or-replicate}
use Rattle.std.proofs.lemmas.Bool.{cases_lt}
use Rattle.model.specs.Bounds.{most_gates}
use Rattle.store.specs.Meaning.{fresh}
use Rattle.store.specs.Calls.{Takes}
use Rattle.store.proofs.Meanings.{same_meaning}
use Rattle.sparse.specs.Arrays.{cell, Perm}
use Rattle.sparse.specs.Meanings.{drawn, meaning}
use Rattle.sparse.specs.declared.Sparse.{Sparse}
use Rattle.sparse.specs.Soundness.{gone_in, gone_out}
use Rattle.sparse.proofs.Spans.{span_none}
use Rattle.sparse.proofs.Fields.{Fields, fields}
use Rattle.sparse.proofs.Rows.{perms_from}

-- every gate full
module _ (s : Sparse) (n w : ℕ) (t : Takes (meaning s) n w) (dom map : List ℕ) (ld : length dom ≡ length s.cells.dom.now) (lm : length map ≡ length s.cells.map.now)
    (cells : ℕ) (all : cells ≡ n * w) (e : (j : ℕ) → j < cells → get_or dom j 0 ≡ j % w) (f : (j : ℕ) → j < cells → get_or map j 0 ≡ j % w) where
  straight : (xs : List ℕ) → ((j : ℕ) → j < cells → get_or xs j 0 ≡ j % w) → (g k : ℕ) → g < n → k < w → cell xs w g k ≡ k
  straight xs q g k hg hk = q (g * w + k) (omega (arith, digits_lt hg hk)) ∙ mod-mul-add g w k hk

  full_perm : (g : ℕ) → g < n → Perm w (cell dom w g) (cell map w g)
  full_perm g hg = (
    λ k b. let d = straight dom e g k hg b in (subst (λ x. x < w) (sym d) b, ap (cell map w g) d ∙ straight map f g k hg b),
    λ k b. let d = straight map f g k hg b in (subst (λ x. x < w) (sym d) b, ap (cell dom w g) d ∙ straight dom e g k hg b),
  )

  pub reset_fields : Fields dom map n w (replicate most_gates w) s.marks 0
  reset_fields =
      fields dom map n w (replicate most_gates w) s.marks 0 (t.few_gates, t.few_positions, omega (arith, t.room), omega (arith, t.room)) (perms_from dom map n w full_perm)
      (length-replicate most_gates w, λ g h. omega (arith, get_or-replicate most_gates g w 0 (omega (arith, t.few_gates))))
      (omega arith, s.table.1, λ d h. absurd (omega arith)) (λ g d h b. absurd (omega arith)) (λ g d h b. absurd (omega arith)) (λ g d h b. absurd (omega arith))

  pub reset_means : drawn dom map n w (replicate most_gates w) s.marks 0 ≡ fresh (meaning s).cells n w
  reset_means =
      same_meaning _ _ (omega arith) refl refl
      (λ h. ⊎_elim
      (λ (b : h < n).
      let z : w - get_or (replicate most_gates w) h 0 ≡ 0 = omega (arith, get_or-replicate most_gates h w 0 (omega (arith, t.few_gates))) in
      gone_in n w dom (replicate most_gates w) h b ∙ span_none (cell dom w h) (get_or (replicate most_gates w) h 0) w (omega arith))
      (λ (b : n ≤ h). gone_out n w dom (replicate most_gates w) h b)
      (cases_lt h n))
      refl
