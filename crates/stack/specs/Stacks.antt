-- What a stack means: the list of its entries, oldest first, and how many it can take.
use Rattle.std.specs.Prelude.{◌≡◌, ℕ, ◌<◌, ◌≤◌, List, [], ◌∷◌, ◌++◌, length, take, Some, None, Ok, Err, Option, Result, slice_index_or}
use Rattle.stack.specs.declared.Stack.{Stack}

abbrev pub items : {X : Type 0} → Stack X → List X
items s = take s.len s.slots.now

abbrev pub room : {X : Type 0} → Stack X → ℕ
room s = length s.slots.now

pub record Pushed {X : Type 0} (before : Stack X) (x : X) (r : Result (Unit {0}) X) (after : Stack X) : Type 0 where
  pub took : length (items before) < room before → (r ≡ Ok tt) × (items after ≡ items before ++ x ∷ [])
  pub full : room before ≤ length (items before) → (r ≡ Err x) × (after ≡ before)
  pub room : room after ≡ room before

abbrev pub Popped : {X : Type 0} → Stack X → Option X → Stack X → Type 0
Popped before None after = (length (items before) ≡ 0) × (after ≡ before)
Popped before (Some x) after = (items before ≡ items after ++ x ∷ []) × (room after ≡ room before)

abbrev pub At : {X : Type 0} → List X → ℕ → Option X → Type 0
At xs i None = length xs ≤ i
At {X} xs i (Some x) = (i < length xs) × ((d : X) → slice_index_or xs i d ≡ x)
