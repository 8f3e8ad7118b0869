-- A sweep over the meaning: one turn, and what it leaves.
use Rattle.std.proofs.Common.{◌≡◌, ℕ, zero, suc, ◌+◌, ◌-◌, ◌<◌, ◌≤◌, Bool, true, false, cond, not, ◌&&◌, ◌||◌, ltb, List, [], ◌∷◌, ◌++◌, filter, Result, sym, refl, ap, ◌∙◌, subst, ap₂, ⊎_elim, add-one, arith}
use Rattle.std.specs.List.{range_with_len}
use Rattle.std.proofs.lemmas.List.{append-nil}
use Rattle.std.proofs.lemmas.Bool.{cond-true, cond-false, cases_Bool, cases_eq, cases_lt, and_from, and_left, and_right, and_parts, not-true, not_from_true, not_from_false, lt-ltb, le-ltb, ltb-true, eq-eqb, ne_eqb}
use Rattle.model.specs.declared.refusal.Refusal.{Refusal}
use Rattle.model.specs.Families.{has}
use Rattle.model.specs.Planners.{Once}
use Rattle.store.specs.Meaning.{Meaning, appended}
use Rattle.store.specs.Calls.{Strike, Leaving}
use Rattle.model.proofs.Meaning.{has_append}
use Rattle.store.proofs.Meanings.{kept_next, kept_apart, at_same, appended_appended, appended_nil}
use Rattle.store.proofs.Members.{once_push}

-- the open positions of gate g below i that pass the test, ascending
abbrev pub outs : Meaning → ℕ → (ℕ → Bool) → ℕ → List ℕ
outs m g t i = filter (λ q. t q && not (has (m.gone g) q)) (range_with_len 0 i)

module _ (m : Meaning) (g : ℕ) (t : ℕ → Bool) where
  abbrev test : ℕ → Bool
  test q = t q && not (has (m.gone g) q)

  module _ (i : ℕ) where
    skip : test i ≡ false → outs m g t (i + 1) ≡ outs m g t i
    skip f = kept_next test i ∙ ap (λ l. outs m g t i ++ l) (cond-false (test i) (i ∷ []) [] f) ∙ append-nil (outs m g t i)

    push : test i ≡ true → outs m g t (i + 1) ≡ outs m g t i ++ (i ∷ [])
    push f = kept_next test i ∙ ap (λ l. outs m g t i ++ l) (cond-true (test i) (i ∷ []) [] f)

    seen : has ((appended m g (outs m g t i)).gone g) i ≡ (has (m.gone g) i || false)
    seen =
        ap (λ l. has l i) (at_same m.gone g (m.gone g ++ outs m g t i)) ∙ has_append (m.gone g) (outs m g t i) i
        ∙ ap (λ b. has (m.gone g) i || b) (kept_apart test i i (omega arith))

    pub sweep_step : t i ≡ true → g < m.gates → i < m.width → (n : Meaning) → n ≡ appended m g (outs m g t i)
        → (r : Result ℕ Refusal) (m' : Meaning) → Strike n g i r m' → m' ≡ appended m g (outs m g t (i + 1))
    sweep_step o hg hi n e r m' s =
        let s' : Strike (appended m g (outs m g t i)) g i r m' = subst (λ x. Strike x g i r m') e s in
        ⊎_elim
        (λ (b : has (m.gone g) i ≡ true).
        let h = s'.miss hg hi (seen ∙ ap (λ x. x || false) b) in
        h.1 ∙ ap (appended m g) (sym (skip (and_right (t i) (not (has (m.gone g) i)) (not_from_true (has (m.gone g) i) b)))))
        (λ (b : has (m.gone g) i ≡ false).
        let h = s'.hit hg hi (seen ∙ ap (λ x. x || false) b) in
        h.1 ∙ appended_appended m g (outs m g t i) (i ∷ [])
        ∙ ap (appended m g) (sym (push (and_from (t i) (not (has (m.gone g) i)) o (not_from_false (has (m.gone g) i) b)))))
        (cases_Bool (has (m.gone g) i))

  -- none passes from i to j
  jump : (i d : ℕ) → ((q : ℕ) → i ≤ q → q < i + d → t q ≡ false) → outs m g t (i + d) ≡ outs m g t i
  jump i zero h = let e : i + 0 ≡ i = omega arith in ap (outs m g t) e
  jump i (suc d) h =
      let e : i + suc d ≡ i + d + 1 = omega arith in
      ap (outs m g t) e ∙ skip (i + d) (and_left (t (i + d)) (not (has (m.gone g) (i + d))) (h (i + d) (omega arith) (omega arith)))
      ∙ jump i d (λ q l u. h q l (omega arith))

  pub sweep_jump : (i j : ℕ) → i ≤ j → ((q : ℕ) → i ≤ q → q < j → t q ≡ false) → (n : Meaning) → n ≡ appended m g (outs m g t i) → n ≡ appended m g (outs m g t j)
  sweep_jump i j l h n e =
      let d : i + (j - i) ≡ j = omega arith in
      e ∙ ap (appended m g) (sym (jump i (j - i) (λ q a b. h q a (omega arith)))) ∙ ap (λ k. appended m g (outs m g t k)) d

  pub sweep_none : appended m g (outs m g t 0) ≡ m
  sweep_none = appended_nil m g

-- what a filter of 0, 1, .. holds
module _ (t : ℕ → Bool) where
  one_more : (i : ℕ) → filter t (range_with_len 0 (suc i)) ≡ filter t (range_with_len 0 i) ++ cond (t i) (i ∷ []) []
  one_more i = ap (λ n. filter t (range_with_len 0 n)) (sym (add-one i)) ∙ kept_next t i

  pub has_kept : (i p : ℕ) → has (filter t (range_with_len 0 i)) p ≡ (ltb p i && t p)
  has_kept zero p = sym (and_left (ltb p 0) (t p) (le-ltb p 0 (omega arith)))
  has_kept (suc i) p =
      ap (λ l. has l p) (one_more i) ∙ has_append (filter t (range_with_len 0 i)) (cond (t i) (i ∷ []) []) p
      ∙ ap (λ b. b || has (cond (t i) (i ∷ []) []) p) (has_kept i p)
      ∙ ⊎_elim
      (λ (y : t i ≡ true). ap (λ l. (ltb p i && t p) || has l p) (cond-true (t i) (i ∷ []) [] y) ∙ ⊎_elim
      (λ (e : i ≡ p).
      ap₂ (λ a b. (a && t p) || (b || false)) (le-ltb p i (omega arith)) (eq-eqb p i (sym e))
      ∙ sym (and_from (ltb p (suc i)) (t p) (lt-ltb p (suc i) (omega arith)) (subst (λ q. t q ≡ true) e y)))
      (λ (ne : i ≡ p → ⊥). ap (λ b. (ltb p i && t p) || (b || false)) (ne_eqb p i (λ q. ne (sym q))) ∙ or_no (ltb p i && t p) ∙ ap (λ b. b && t p) (step ne))
      (cases_eq i p))
      (λ (f : t i ≡ false). ap (λ l. (ltb p i && t p) || has l p) (cond-false (t i) (i ∷ []) [] f) ∙ or_no (ltb p i && t p) ∙ ⊎_elim
      (λ (e : i ≡ p). let z : t p ≡ false = subst (λ q. t q ≡ false) e f in and_right (ltb p i) (t p) z ∙ sym (and_right (ltb p (suc i)) (t p) z))
      (λ (ne : i ≡ p → ⊥). ap (λ b. b && t p) (step ne))
      (cases_eq i p))
      (cases_Bool (t i))
    where
      or_no : (a : Bool) → (a || false) ≡ a
      or_no true = refl
      or_no false = refl

      step : (i ≡ p → ⊥) → ltb p i ≡ ltb p (suc i)
      step ne = ⊎_elim
          (λ (l : p < i). lt-ltb p i l ∙ sym (lt-ltb p (suc i) (omega arith)))
          (λ (l : i ≤ p). le-ltb p i l ∙ sym (le-ltb p (suc i) (omega arith)))
          (cases_lt p i)

  pub once_kept : (i : ℕ) → Once (filter t (range_with_len 0 i))
  once_kept zero = tt
  once_kept (suc i) =
      ⊎_elim
      (λ (y : t i ≡ true). subst Once (sym (one_more i ∙ ap (λ l. filter t (range_with_len 0 i) ++ l) (cond-true (t i) (i ∷ []) [] y)))
      (once_push (filter t (range_with_len 0 i)) i (once_kept i) (kept_apart t i i (omega arith))))
      (λ (f : t i ≡ false). subst Once (sym (one_more i ∙ ap (λ l. filter t (range_with_len 0 i) ++ l) (cond-false (t i) (i ∷ []) [] f) ∙ append-nil (filter t (range_with_len 0 i))))
      (once_kept i))
      (cases_Bool (t i))

-- what a sweep strikes is what is open and not kept
pub sweep_leaves : (m : Meaning) (g : ℕ) (t kept : ℕ → Bool) → ((q : ℕ) → q < m.width → has (m.gone g) q ≡ false → t q ≡ not (kept q)) → Leaving m g kept (outs m g t m.width)
sweep_leaves m g t kept h =
    let u : ℕ → Bool = λ q. t q && not (has (m.gone g) q) in
    let k = has_kept u m.width in
    let in' : (p : ℕ) → has (outs m g t m.width) p ≡ true → (p < m.width) × (t p ≡ true) × (has (m.gone g) p ≡ false) = λ p e.
    let a = and_parts (ltb p m.width) (u p) (sym (k p) ∙ e) in
    let b = and_parts (t p) (not (has (m.gone g) p)) a.1 in
    (ltb-true p m.width a.0, b.0, not-true (has (m.gone g) p) b.1) in
    record {
      once = once_kept u m.width;
      those = λ p l o n. k p ∙ and_from (ltb p m.width) (u p) (lt-ltb p m.width l)
          (and_from (t p) (not (has (m.gone g) p)) (h p l o ∙ not_from_false (kept p) n) (not_from_false (has (m.gone g) p) o));
      below = λ p e. (in' p e).0;
      opened = λ p e. (in' p e).2;
      others = λ p e. let a = in' p e in not-true (kept p) (sym (h p a.0 a.2) ∙ a.1);
    }

pub leaving_same : (m : Meaning) (g : ℕ) (k k' : ℕ → Bool) (xs : List ℕ) → ((q : ℕ) → q < m.width → k q ≡ k' q) → Leaving m g k xs → Leaving m g k' xs
leaving_same m g k k' xs e l = record {
  once = l.once;
  those = λ p h o n. l.those p h o (e p h ∙ n);
  below = l.below;
  opened = l.opened;
  others = λ p h. sym (e p (l.below p h)) ∙ l.others p h;
}
