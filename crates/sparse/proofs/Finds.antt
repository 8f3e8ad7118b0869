-- What a search by the store's own answers finds, up from the first position or down from the last.
use Rattle.std.proofs.Common.{◌≡◌, ℕ, ◌<◌, ◌≤◌, Bool, true, false, not, Option, None, Some, Ok, sym, refl, ap, arith}
use Rattle.model.specs.Families.{has}
use Rattle.store.specs.Meaning.{Meaning}
use Rattle.store.specs.Calls.{Contains, Lowest, Highest}
use Rattle.std.specs.Option.{MatchOption}
use Rattle.std.specs.declared.ops.Range.{Range}

module _ (m : Meaning) (g : ℕ) (hg : g < m.gates) where
  answered : (q : ℕ) → q < m.width → (b : Bool) → Contains m g q (Ok b) → has (m.gone g) q ≡ not b
  answered q l b k = let z : b ≡ not (has (m.gone g) q) = let e = k.answer hg l in cc in flip (has (m.gone g) q) b z
    where
      flip : (a b : Bool) → b ≡ not a → a ≡ not b
      flip true b e = sym (ap not e)
      flip false b e = sym (ap not e)

  pub least_found : (s : Range ℕ) → s.start ≡ 0 → s.end ≡ m.width → (r : Option ℕ)
      → MatchOption r ((k : ℕ) → s.start ≤ k → k < s.end → Contains m g k (Ok false))
      (λ i. (s.start ≤ i) × (i < s.end) × Contains m g i (Ok true) × ((k : ℕ) → s.start ≤ k → k < i → Contains m g k (Ok false)))
      → Lowest m g (Ok r)
  least_found s a b None h = record { gate = λ l. absurd (omega arith); answer = λ _. (None, refl, λ q l. answered q l false (h q (omega arith) (omega arith))) }
  least_found s a b (Some i) h = record {
    gate = λ l. absurd (omega arith);
    answer = λ _. let l : i < m.width = omega (arith, h.1) in
        (Some i, refl, (l, answered i l true h.2, λ q v. answered q (omega arith) false (h.3 q (omega arith) v)));
  }

  pub greatest_found : (s : Range ℕ) → s.start ≡ 0 → s.end ≡ m.width → (r : Option ℕ)
      → MatchOption r ((k : ℕ) → s.start ≤ k → k < s.end → Contains m g k (Ok false))
      (λ i. (s.start ≤ i) × (i < s.end) × Contains m g i (Ok true) × ((k : ℕ) → i < k → k < s.end → Contains m g k (Ok false)))
      → Highest m g (Ok r)
  greatest_found s a b None h = record { gate = λ l. absurd (omega arith); answer = λ _. (None, refl, λ q l. answered q l false (h q (omega arith) (omega arith))) }
  greatest_found s a b (Some i) h = record {
    gate = λ l. absurd (omega arith);
    answer = λ _. let l : i < m.width = omega (arith, h.1) in
        (Some i, refl, (l, answered i l true h.2, λ q v w. answered q w false (h.3 q v (omega arith))));
  }
