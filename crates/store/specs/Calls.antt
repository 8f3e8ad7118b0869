-- What each call on a store answers, and what it leaves.
use Rattle.std.specs.Prelude.{◌≡◌, ℕ, ◌+◌, ◌-◌, ◌*◌, ◌<◌, ◌≤◌, Bool, true, false, not, T, List, [], ◌∷◌, length, Some, None, Ok, Err, Option, Result, nat_eq, slice_index}
use Rattle.model.specs.declared.refusal.Refusal.{Refusal}
use Rattle.model.specs.declared.refusal.Refusal.TheVariants.{NoRoom, NoGate, NoPosition, TooManySaves, NoSave}
use Rattle.model.specs.Bounds.{most_gates, most_width, most_marks}
use Rattle.model.specs.Families.{has}
use Rattle.model.specs.Planners.{Once, all_below}
use Rattle.store.specs.Meaning.{Meaning, domains, left, appended, fresh, saved, restored}

pub record Reset (m : Meaning) (n w : ℕ) (r : Result (Unit {0}) Refusal) (m' : Meaning) : Type 0 where
  pub done : 1 ≤ n → n ≤ most_gates → 1 ≤ w → w ≤ most_width → n * w ≤ m.cells → (r ≡ Ok tt) × (m' ≡ fresh m.cells n w)
  pub no_gate : n ≡ 0 → (r ≡ Err NoRoom) × (m' ≡ m)
  pub many_gates : most_gates < n → (r ≡ Err NoRoom) × (m' ≡ m)
  pub no_position : w ≡ 0 → (r ≡ Err NoRoom) × (m' ≡ m)
  pub wide : most_width < w → (r ≡ Err NoRoom) × (m' ≡ m)
  pub large : m.cells < n * w → (r ≡ Err NoRoom) × (m' ≡ m)

pub record Strike (m : Meaning) (g p : ℕ) (r : Result ℕ Refusal) (m' : Meaning) : Type 0 where
  pub gate : m.gates ≤ g → (r ≡ Err NoGate) × (m' ≡ m)
  pub position : g < m.gates → m.width ≤ p → (r ≡ Err NoPosition) × (m' ≡ m)
  pub hit : g < m.gates → p < m.width → has (m.gone g) p ≡ false → (r ≡ Ok 1) × (m' ≡ appended m g (p ∷ []))
  pub miss : g < m.gates → p < m.width → has (m.gone g) p ≡ true → (r ≡ Ok 0) × (m' ≡ m)

-- the list is the positions of the gate that are open and not kept, each once, in some order: the order is free
pub record Leaving (m : Meaning) (g : ℕ) (kept : ℕ → Bool) (xs : List ℕ) : Type 0 where
  pub once : Once xs
  pub those : (p : ℕ) → p < m.width → has (m.gone g) p ≡ false → kept p ≡ false → has xs p ≡ true
  pub below : (p : ℕ) → has xs p ≡ true → p < m.width
  pub opened : (p : ℕ) → has xs p ≡ true → has (m.gone g) p ≡ false
  pub others : (p : ℕ) → has xs p ≡ true → kept p ≡ false

-- all that is open and not kept leaves; the answer is how many positions are left then
abbrev pub Kept : Meaning → ℕ → (ℕ → Bool) → Result ℕ Refusal → Meaning → Type 0
Kept m g kept r m' = (xs : List ℕ) × Leaving m g kept xs × (m' ≡ appended m g xs) × (r ≡ Ok (left m' g))

pub record Bind (m : Meaning) (g p : ℕ) (r : Result ℕ Refusal) (m' : Meaning) : Type 0 where
  pub gate : m.gates ≤ g → (r ≡ Err NoGate) × (m' ≡ m)
  pub position : g < m.gates → m.width ≤ p → (r ≡ Err NoPosition) × (m' ≡ m)
  pub done : g < m.gates → p < m.width → Kept m g (λ q. nat_eq q p) r m'

pub record Keep (m : Meaning) (g : ℕ) (list : List ℕ) (r : Result ℕ Refusal) (m' : Meaning) : Type 0 where
  pub gate : m.gates ≤ g → (r ≡ Err NoGate) × (m' ≡ m)
  pub position : g < m.gates → all_below m.width list ≡ false → (r ≡ Err NoPosition) × (m' ≡ m)
  pub done : g < m.gates → all_below m.width list ≡ true → Kept m g (has list) r m'

pub record Save (m : Meaning) (r : Result ℕ Refusal) (m' : Meaning) : Type 0 where
  pub full : most_marks ≤ length m.marks → (r ≡ Err TooManySaves) × (m' ≡ m)
  pub done : length m.marks < most_marks → (r ≡ Ok (length m.marks + 1)) × (m' ≡ saved m)

pub record Restore (m : Meaning) (r : Result ℕ Refusal) (m' : Meaning) : Type 0 where
  pub none : length m.marks ≡ 0 → (r ≡ Err NoSave) × (m' ≡ m)
  pub done : 0 < length m.marks → (r ≡ Ok (length m.marks - 1)) × (m' ≡ restored m)

pub record Contains (m : Meaning) (g p : ℕ) (r : Result Bool Refusal) : Type 0 where
  pub gate : m.gates ≤ g → r ≡ Err NoGate
  pub position : g < m.gates → m.width ≤ p → r ≡ Err NoPosition
  pub answer : g < m.gates → p < m.width → r ≡ Ok (not (has (m.gone g) p))

pub record Count (m : Meaning) (g : ℕ) (r : Result ℕ Refusal) : Type 0 where
  pub gate : m.gates ≤ g → r ≡ Err NoGate
  pub answer : g < m.gates → r ≡ Ok (left m g)

-- the k-th position that has left the gate, from 0 on; absent beyond the list
pub record Gone (m : Meaning) (g k : ℕ) (r : Result (Option ℕ) Refusal) : Type 0 where
  pub gate : m.gates ≤ g → r ≡ Err NoGate
  pub beyond : g < m.gates → length (m.gone g) ≤ k → r ≡ Ok None
  pub answer : g < m.gates → k < length (m.gone g) → r ≡ Ok (Some (slice_index (m.gone g) k))

-- the least position open to the gate; absent where none is open
abbrev pub Least : Meaning → ℕ → Option ℕ → Type 0
Least m g None = (q : ℕ) → q < m.width → has (m.gone g) q ≡ true
Least m g (Some p) = (p < m.width) × (has (m.gone g) p ≡ false) × ((q : ℕ) → q < p → has (m.gone g) q ≡ true)

pub record Lowest (m : Meaning) (g : ℕ) (r : Result (Option ℕ) Refusal) : Type 0 where
  pub gate : m.gates ≤ g → r ≡ Err NoGate
  pub answer : g < m.gates → (o : Option ℕ) × (r ≡ Ok o) × Least m g o

abbrev pub Greatest : Meaning → ℕ → Option ℕ → Type 0
Greatest m g None = (q : ℕ) → q < m.width → has (m.gone g) q ≡ true
Greatest m g (Some p) = (p < m.width) × (has (m.gone g) p ≡ false) × ((q : ℕ) → p < q → q < m.width → has (m.gone g) q ≡ true)

pub record Highest (m : Meaning) (g : ℕ) (r : Result (Option ℕ) Refusal) : Type 0 where
  pub gate : m.gates ≤ g → r ≡ Err NoGate
  pub answer : g < m.gates → (o : Option ℕ) × (r ≡ Ok o) × Greatest m g o

-- the least open position from `from` on, or none where no position from there on is open
abbrev pub NextOpen : Meaning → ℕ → ℕ → Option ℕ → Type 0
NextOpen m g from None = (q : ℕ) → from ≤ q → T (domains m g q) → ⊥
NextOpen m g from (Some p) = (from ≤ p) × T (domains m g p) × ((q : ℕ) → from ≤ q → T (domains m g q) → p ≤ q)

-- the gate is there, or is refused
pub record GateCheck (m : Meaning) (g : ℕ) (r : Result (Unit {0}) Refusal) : Type 0 where
  pub there : r ≡ Ok tt → g < m.gates
  pub done : g < m.gates → r ≡ Ok tt
  pub gate : m.gates ≤ g → r ≡ Err NoGate

-- the gate and the position are there, or the first of them that is not is refused
pub record PositionCheck (m : Meaning) (g p : ℕ) (r : Result (Unit {0}) Refusal) : Type 0 where
  pub there : r ≡ Ok tt → (g < m.gates) × (p < m.width)
  pub done : g < m.gates → p < m.width → r ≡ Ok tt
  pub gate : m.gates ≤ g → r ≡ Err NoGate
  pub position : g < m.gates → m.width ≤ p → r ≡ Err NoPosition

-- the gate and all positions of the list are there, or the gate is refused, or the list
pub record ListCheck (m : Meaning) (g : ℕ) (list : List ℕ) (r : Result (Unit {0}) Refusal) : Type 0 where
  pub there : r ≡ Ok tt → (g < m.gates) × (all_below m.width list ≡ true)
  pub done : g < m.gates → all_below m.width list ≡ true → r ≡ Ok tt
  pub gate : m.gates ≤ g → r ≡ Err NoGate
  pub position : g < m.gates → all_below m.width list ≡ false → r ≡ Err NoPosition

-- how many gates and positions there may be
pub record Takes (m : Meaning) (n w : ℕ) : Type 0 where
  pub some_gates : 1 ≤ n
  pub few_gates : n ≤ most_gates
  pub some_positions : 1 ≤ w
  pub few_positions : w ≤ most_width
  pub room : n * w ≤ m.cells

-- so many gates and positions can be taken, or are refused
pub record SizeCheck (m : Meaning) (n w : ℕ) (r : Result (Unit {0}) Refusal) : Type 0 where
  pub takes : r ≡ Ok tt → Takes m n w
  pub done : 1 ≤ n → n ≤ most_gates → 1 ≤ w → w ≤ most_width → n * w ≤ m.cells → r ≡ Ok tt
  pub no_gate : n ≡ 0 → r ≡ Err NoRoom
  pub many_gates : most_gates < n → r ≡ Err NoRoom
  pub no_position : w ≡ 0 → r ≡ Err NoRoom
  pub wide : most_width < w → r ≡ Err NoRoom
  pub large : m.cells < n * w → r ≡ Err NoRoom
