-- What a search down from the last number finds, by any closure.
use Rattle.std.proofs.Common.{◌≡◌, ℕ, ◌+◌, ◌-◌, ◌<◌, ◌≤◌, Bool, true, false, List, [], ◌∷◌, Option, None, Some, sym, ap, subst, ⊎_elim, arith}
use Rattle.std.proofs.lemmas.Bool.{cases_lt, cases_Bool}
use Rattle.std.proofs.iter.runs.Sources.{nat_range_steps_back, nat_range_inclusive_steps_back}
use denote.Ref.{Bor}
use denote.Param.Members.{Mut}
use Rattle.std.specs.Fn.{CalledAt}
use Rattle.std.specs.Iterator.{Yields}
use Rattle.std.specs.Iterator.Adapters.{rev_source, rev_steps}
use Rattle.std.specs.List.{FoldsTo}
use Rattle.std.specs.Option.{MatchOption}
use Rattle.std.specs.Range.{range_inclusive_start, range_inclusive_end, range_inclusive_exhausted, range_inclusive_len}
use Rattle.std.specs.declared.iter.Rev.{Rev}
use Rattle.std.specs.declared.ops.Range.{Range}
use Rattle.std.specs.declared.ops.RangeInclusive.{RangeInclusive}

module _ {F : Type 0} {g : Mut F (Bor ℕ × Unit {0}) Bool} (f : F) (Yes No : ℕ → Type 0)
    (yes' : (x : ℕ) (q : F) → CalledAt g f x true q → Yes x) (no' : (x : ℕ) (q : F) → CalledAt g f x false q → (q ≡ f) × No x) where
  -- the last hit among the n numbers from a
  abbrev Last : ℕ → ℕ → Option ℕ → Type 0
  Last a n r = MatchOption r ((k : ℕ) → a ≤ k → k < a + n → No k) (λ i. (a ≤ i) × (i < a + n) × Yes i × ((k : ℕ) → i < k → k < a + n → No k))

  -- one number more behind those that the search is known for
  further : (a n : ℕ) (r : Option ℕ) → No (a + n) → Last a n r → Last a (n + 1) r
  further a n None last h = λ k l u. ⊎_elim (λ (v : k < a + n). h k l v) (λ (v : a + n ≤ k). subst No (omega arith) last) (cases_lt k (a + n))
  further a n (Some i) last h = (
    h.0,
    omega (arith, h.1),
    h.2,
    λ k l u. ⊎_elim (λ (v : k < a + n). h.3 k l v) (λ (v : a + n ≤ k). subst No (omega arith) last) (cases_lt k (a + n)),
  )

  -- of any source that counts down the `many` numbers from `low`
  module _ {S : Type 0} (steps : S → Option ℕ → S → Type 0) (low many : S → ℕ)
      (one : (s t : S) (x : ℕ) → steps s (Some x) t → (low t ≡ low s) × (many s ≡ many t + 1) × (x ≡ low s + many t))
      (none : (s t : S) → steps s None t → many s ≡ 0) where
    last_of : (xs : List ℕ) (s t u : S) (j : F) (r : Option ℕ)
        → Yields steps s xs t → steps t r u → FoldsTo (λ p x q. CalledAt g p x false q) f xs j
        → MatchOption r (Unit {0}) (λ x. (h : F) × CalledAt g j x true h) → Last (low s) (many s) r
    last_of [] s t u j None y e c h = subst (λ (k : S). Last (low k) (many k) None) (sym y) (λ k l v. absurd (omega (arith, none t u e)))
    last_of [] s t u j (Some x) y e c h =
        let o = one t u x e in
        subst (λ (k : S). Last (low k) (many k) (Some x)) (sym y)
        (omega (arith, o.2), omega (arith, o.1, o.2), yes' x h.0 (subst (λ k. CalledAt g k x true h.0) (sym c) h.1), λ k l v. absurd (omega (arith, o.1, o.2)))
    last_of (x ∷ xs) s t u j r y e c h =
        let o = one s y.0 x y.1 in
        let n = no' x c.0 c.1 in
        let i = last_of xs y.0 t u j r y.2 e (subst (λ k. FoldsTo (λ p x q. CalledAt g p x false q) k xs j) n.0 c.2) h in
        subst (λ m. Last (low s) m r) (sym o.1) (further (low s) (many y.0) r (subst No o.2 n.1) (subst (λ a. Last a (many y.0) r) o.0 i))

    last_from : (s u : S) (r : Option ℕ)
        → (xs : List ℕ) × (j : F) × ((t : S) × Yields steps s xs t × steps t r u)
        × FoldsTo (λ p x q. CalledAt g p x false q) f xs j × MatchOption r (Unit {0}) (λ x. (h : F) × CalledAt g j x true h)
        → Last (low s) (many s) r
    last_from s u r d = last_of d.0 s d.2.0 u d.1 r d.2.1 d.2.2 d.3 d.4

  pub last_from_Range : (s u : Rev (Range ℕ)) (r : Option ℕ)
      → (xs : List ℕ) × (j : F) × ((t : Rev (Range ℕ)) × Yields (rev_steps nat_range_steps_back) s xs t × rev_steps nat_range_steps_back t r u)
      × FoldsTo (λ p x q. CalledAt g p x false q) f xs j × MatchOption r (Unit {0}) (λ x. (h : F) × CalledAt g j x true h)
      → MatchOption r ((k : ℕ) → (rev_source s).start ≤ k → k < (rev_source s).end → No k)
      (λ i. ((rev_source s).start ≤ i) × (i < (rev_source s).end) × Yes i × ((k : ℕ) → i < k → k < (rev_source s).end → No k))
  last_from_Range s u r d =
      ends r (last_from (rev_steps nat_range_steps_back) (λ s. (rev_source s).start) (λ s. (rev_source s).end - (rev_source s).start)
      (λ s t x e. (e.0, omega (arith, e), omega (arith, e))) (λ s t e. e.1.0) s u r d)
    where
      ends : (r : Option ℕ) → Last (rev_source s).start ((rev_source s).end - (rev_source s).start) r
          → MatchOption r ((k : ℕ) → (rev_source s).start ≤ k → k < (rev_source s).end → No k)
          (λ i. ((rev_source s).start ≤ i) × (i < (rev_source s).end) × Yes i × ((k : ℕ) → i < k → k < (rev_source s).end → No k))
      ends None h = λ k l v. h k l (omega arith)
      ends (Some i) h = (h.0, omega (arith, h.0, h.1), h.2, λ k l v. h.3 k l (omega (arith, h.0)))

  -- how many numbers are left of it
  abbrev rest : RangeInclusive ℕ → ℕ
  rest s = range_inclusive_len (λ x y. y - x) (range_inclusive_start s) (range_inclusive_end s) (range_inclusive_exhausted s)

  rest_fresh : (s : RangeInclusive ℕ) → range_inclusive_exhausted s ≡ false → rest s ≡ range_inclusive_end s + 1 - range_inclusive_start s
  rest_fresh s z = omega (arith, ap (range_inclusive_len (λ x y. y - x) (range_inclusive_start s) (range_inclusive_end s)) z)

  rest_spent : (s : RangeInclusive ℕ) → range_inclusive_exhausted s ≡ true → rest s ≡ 0
  rest_spent s z = ap (range_inclusive_len (λ x y. y - x) (range_inclusive_start s) (range_inclusive_end s)) z

  counted : (s t : RangeInclusive ℕ) (x : ℕ) → nat_range_inclusive_steps_back s (Some x) t → x ≡ range_inclusive_start s + rest t
  counted s t x e =
      let was : rest s ≡ range_inclusive_end s + 1 - range_inclusive_start s =
      ⊎_elim (λ (z : range_inclusive_exhausted s ≡ true). absurd (omega (arith, e.1.1, rest_spent s z))) (λ (z : range_inclusive_exhausted s ≡ false). rest_fresh s z) (cases_Bool (range_inclusive_exhausted s)) in
      omega (arith, e.1.0, e.1.1, was)

  pub last_from_RangeInclusive : (s u : Rev (RangeInclusive ℕ)) (r : Option ℕ) → range_inclusive_exhausted (rev_source s) ≡ false
      → (xs : List ℕ) × (j : F) × ((t : Rev (RangeInclusive ℕ)) × Yields (rev_steps nat_range_inclusive_steps_back) s xs t × rev_steps nat_range_inclusive_steps_back t r u)
      × FoldsTo (λ p x q. CalledAt g p x false q) f xs j × MatchOption r (Unit {0}) (λ x. (h : F) × CalledAt g j x true h)
      → MatchOption r ((k : ℕ) → range_inclusive_start (rev_source s) ≤ k → k ≤ range_inclusive_end (rev_source s) → No k)
      (λ i. (range_inclusive_start (rev_source s) ≤ i) × (i ≤ range_inclusive_end (rev_source s)) × Yes i × ((k : ℕ) → i < k → k ≤ range_inclusive_end (rev_source s) → No k))
  last_from_RangeInclusive s u r z d =
      ends r (last_from (rev_steps nat_range_inclusive_steps_back) (λ s. range_inclusive_start (rev_source s)) (λ s. rest (rev_source s))
      (λ s t x e. (e.0, omega (arith, e.1.1), counted (rev_source s) (rev_source t) x e)) (λ s t e. e.1.0) s u r d)
    where
      n : rest (rev_source s) ≡ range_inclusive_end (rev_source s) + 1 - range_inclusive_start (rev_source s)
      n = rest_fresh (rev_source s) z

      ends : (r : Option ℕ) → Last (range_inclusive_start (rev_source s)) (rest (rev_source s)) r
          → MatchOption r ((k : ℕ) → range_inclusive_start (rev_source s) ≤ k → k ≤ range_inclusive_end (rev_source s) → No k)
          (λ i. (range_inclusive_start (rev_source s) ≤ i) × (i ≤ range_inclusive_end (rev_source s)) × Yes i × ((k : ℕ) → i < k → k ≤ range_inclusive_end (rev_source s) → No k))
      ends None h = λ k l v. h k l (omega (arith, n))
      ends (Some i) h = (h.0, omega (arith, h.0, h.1, n), h.2, λ k l v. h.3 k l (omega (arith, h.0, n)))
