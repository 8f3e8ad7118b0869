-- What it takes to be open, and what a strike or a bind leaves open.
use Rattle.std.proofs.Common.{◌≡◌, ℕ, ◌<◌, ◌≤◌, Bool, true, false, not, ◌&&◌, T, ltb, Some, None, Ok, Err, Option, Result, sym, refl, ap, ◌∙◌, subst, ⊎_elim, arith, ltb→lt, lt→ltb}
use Rattle.std.proofs.lemmas.Bool.{cases_lt, lt-ltb, le-ltb, and_left, and_right}
use Rattle.std.specs.Option.{MatchOption}
use Rattle.std.specs.Result.{result_unwrap_or}
use Rattle.model.specs.declared.refusal.Refusal.{Refusal}
use Rattle.model.specs.Families.{has}
use Rattle.model.proofs.Tests.{both, left, right}
use Rattle.store.specs.Meaning.{Meaning, domains}
use Rattle.store.specs.Calls.{Contains, NextOpen}
use Rattle.store.proofs.Members.{false_not, true_is}

not_T_false : (a : Bool) → T (not a) → a ≡ false
not_T_false true p = absurd p
not_T_false false p = refl

false_T_not : (a : Bool) → a ≡ false → T (not a)
false_T_not true p = subst T p tt
false_T_not false p = tt

module _ (m : Meaning) (g p : ℕ) where
  pub open_gate : T (domains m g p) → g < m.gates
  open_gate t = ltb→lt g m.gates (left (ltb g m.gates) (ltb p m.width && not (has (m.gone g) p)) t)

  rest : T (domains m g p) → T (ltb p m.width && not (has (m.gone g) p))
  rest t = right (ltb g m.gates) (ltb p m.width && not (has (m.gone g) p)) t

  pub open_width : T (domains m g p) → p < m.width
  open_width t = ltb→lt p m.width (left (ltb p m.width) (not (has (m.gone g) p)) (rest t))

  pub open_has : T (domains m g p) → has (m.gone g) p ≡ false
  open_has t = not_T_false (has (m.gone g) p) (right (ltb p m.width) (not (has (m.gone g) p)) (rest t))

  pub open_is : g < m.gates → p < m.width → has (m.gone g) p ≡ false → T (domains m g p)
  open_is a b e =
      both (ltb g m.gates) (ltb p m.width && not (has (m.gone g) p)) (lt→ltb g m.gates a)
      (both (ltb p m.width) (not (has (m.gone g) p)) (lt→ltb p m.width b) (false_T_not (has (m.gone g) p) e))

  -- what contains answers
  pub contains_open : (r : Result Bool Refusal) → Contains m g p r → (b : Bool) → r ≡ Ok b → b ≡ domains m g p
  contains_open r k b e =
      ⊎_elim
      (λ (a : g < m.gates). ⊎_elim
      (λ (l : p < m.width).
      let x = k.answer a l in
      let z : b ≡ not (has (m.gone g) p) = cc in
      z ∙ (let u = lt-ltb g m.gates a in let v = lt-ltb p m.width l in
      sym (ap (λ c. c && (ltb p m.width && not (has (m.gone g) p))) u ∙ ap (λ c. c && not (has (m.gone g) p)) v)))
      (λ (l : m.width ≤ p). let x = k.position a l in let z : ◌≡◌ {A = ℕ} 0 1 = cc in absurd (omega arith))
      (cases_lt p m.width))
      (λ (a : m.gates ≤ g). let x = k.gate a in let z : ◌≡◌ {A = ℕ} 0 1 = cc in absurd (omega arith))
      (cases_lt g m.gates)

  pub refused_shut : (r : Result Bool Refusal) → Contains m g p r → (x : Refusal) → r ≡ Err x → false ≡ domains m g p
  refused_shut r k x e =
      ⊎_elim
      (λ (a : g < m.gates). ⊎_elim
      (λ (l : p < m.width). let y = k.answer a l in let z : ◌≡◌ {A = ℕ} 0 1 = cc in absurd (omega arith))
      (λ (l : m.width ≤ p).
      sym (ap (λ c. ltb g m.gates && (c && not (has (m.gone g) p))) (le-ltb p m.width l) ∙ and_right (ltb g m.gates) false refl))
      (cases_lt p m.width))
      (λ (a : m.gates ≤ g). sym (and_left (ltb g m.gates) (ltb p m.width && not (has (m.gone g) p)) (le-ltb g m.gates a)))
      (cases_lt g m.gates)

  -- what contains answers, a refusal being no
  pub contains_yes : (r : Result Bool Refusal) → Contains m g p r → result_unwrap_or r false ≡ domains m g p
  contains_yes (Ok b) k = contains_open (Ok b) k b refl
  contains_yes (Err x) k = refused_shut (Err x) k x refl

-- the first that a search up to the width finds open
pub next_found : (m : Meaning) (g from : ℕ) (r : Option ℕ)
    → MatchOption r ((k : ℕ) → from ≤ k → k < m.width → domains m g k ≡ false)
    (λ i. (from ≤ i) × (i < m.width) × (domains m g i ≡ true) × ((k : ℕ) → from ≤ k → k < i → domains m g k ≡ false))
    → NextOpen m g from r
next_found m g from None none = λ q a t. false_not (domains m g q) (none q a (open_width m g q t)) t
next_found m g from (Some i) found = (
  found.0,
  true_is (domains m g i) found.2,
  λ q a t. ⊎_elim (λ (l : q < i). absurd (false_not (domains m g q) (found.3 q a l) t)) (λ (l : i ≤ q). l) (cases_lt q i),
)
