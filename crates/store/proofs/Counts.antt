-- How many numbers a list with each number once leaves.
use Rattle.std.proofs.Common.{◌≡◌, ℕ, zero, suc, ◌+◌, ◌-◌, ◌<◌, ◌≤◌, Bool, true, false, cond, not, ◌&&◌, ◌||◌, T, ltb, List, [], ◌∷◌, length, sym, refl, ap, ◌∙◌, ap₂, ⊎_elim, arith, length-append}
use Rattle.std.proofs.lemmas.Bool.{eq-eqb, ne_eqb, cases_eq, lt-ltb}
use Rattle.model.specs.Families.{has}
use Rattle.model.specs.Ledgers.{ascending}
use Rattle.model.specs.Planners.{Once, all_below}
use Rattle.model.proofs.Tests.{right}
use Rattle.model.proofs.Meaning.{ascending_agree}
use Rattle.store.specs.Meaning.{Meaning, Sound, left, domain, domains}
use Rattle.store.proofs.Members.{is_false, all_below_at}

pub ascending_next : (w : ℕ) (t : ℕ → Bool) → length (ascending (suc w) t) ≡ length (ascending w t) + length (cond (t w) (w ∷ []) [])
ascending_next w t = length-append (ascending w t) (cond (t w) (w ∷ []) [])

-- one number fewer passes
pub one_fewer : (w : ℕ) (t u : ℕ → Bool) (x : ℕ) → x < w → t x ≡ true → u x ≡ false → ((p : ℕ) → (p ≡ x → ⊥) → u p ≡ t p)
    → length (ascending w t) ≡ length (ascending w u) + 1
one_fewer zero t u x h a b same = absurd (omega arith)
one_fewer (suc w) t u x h a b same =
    ⊎_elim
    (λ (e : x ≡ w).
    let i = ap length (ascending_agree w u t (λ p l. same p (λ q. omega arith))) in
    let j : length (cond (t w) (w ∷ []) []) ≡ 1 = ap (λ (c : Bool). length (cond c (w ∷ []) [])) (ap t (sym e) ∙ a) in
    let k : length (cond (u w) (w ∷ []) []) ≡ 0 = ap (λ (c : Bool). length (cond c (w ∷ []) [])) (ap u (sym e) ∙ b) in
    let m = ascending_next w t in
    let n = ascending_next w u in
    omega arith)
    (λ (ne : x ≡ w → ⊥).
    let i = one_fewer w t u x (omega arith) a b same in
    let k = ap (λ (c : Bool). length (cond c (w ∷ []) [])) (same w (λ q. ne (sym q))) in
    let m = ascending_next w t in
    let n = ascending_next w u in
    omega arith)
    (cases_eq x w)

pub all_pass : (w : ℕ) → length (ascending w (λ _. true)) ≡ w
all_pass zero = refl
all_pass (suc w) = let i = all_pass w in let n = ascending_next w (λ _. true) in omega arith

pub left_count : (w : ℕ) (xs : List ℕ) → Once xs → T (all_below w xs) → length (ascending w (λ p. not (has xs p))) + length xs ≡ w
left_count w [] o b = let i = all_pass w in omega arith
left_count w (x ∷ xs) o b =
    let e = eq-eqb x x refl in
    let i = one_fewer w (λ p. not (has xs p)) (λ p. not (has (x ∷ xs) p)) x (all_below_at w (x ∷ xs) b 0 (omega arith))
    (ap not (is_false (has xs x) o.0))
    (ap (λ (c : Bool). not (c || has xs x)) e)
    (λ p ne. ap (λ (c : Bool). not (c || has xs p)) (ne_eqb p x ne)) in
    let j = left_count w xs o.1 (right (ltb x w) (all_below w xs) b) in
    omega arith

-- what is open to a gate, as a list
pub domain_is : (m : Meaning) (g : ℕ) → g < m.gates → domain m g ≡ ascending m.width (λ p. not (has (m.gone g) p))
domain_is m g l =
    ascending_agree m.width (λ p. domains m g p) (λ p. not (has (m.gone g) p))
    (λ p h. ap₂ {C = Bool} (λ (a b : Bool). a && (b && not (has (m.gone g) p))) (lt-ltb g m.gates l) (lt-ltb p m.width h))

module _ (m : Meaning) (s : Sound m) (g : ℕ) where
  pub gone_short : length (m.gone g) ≤ m.width
  gone_short = let i = left_count m.width (m.gone g) (s.once g) (s.below g) in omega arith

  pub left_is : g < m.gates → left m g ≡ m.width - length (m.gone g)
  left_is l =
      let i = left_count m.width (m.gone g) (s.once g) (s.below g) in
      let j = ap length (domain_is m g l) in
      omega arith
