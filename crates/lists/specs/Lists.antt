-- What is written into a caller's list, and when two stores have the same open.
use Rattle.std.specs.Prelude.{◌≡◌, ℕ, ◌<◌, ◌≤◌, Bool, false, List, ◌++◌, length, drop, Some, None, Option, slice_index_or}
use Rattle.std.specs.List.{list_all, range_with_len}
use Rattle.std.specs.Bool.{beq}
use Rattle.model.specs.Ledgers.{ascending}
use Rattle.store.specs.Meaning.{Meaning, domains}

-- of the numbers below w the row marks those that pass the test
abbrev pub Marks : List Bool → ℕ → (ℕ → Bool) → Type 0
Marks row w test = (p : ℕ) → p < w → slice_index_or row p false ≡ test p

-- the numbers below w that a row marks, ascending
abbrev pub marked : List Bool → ℕ → List ℕ
marked row w = ascending w (λ p. slice_index_or row p false)

-- the list, where it has room for them: at its front these, behind them what it held
pub record Written (xs list : List ℕ) (r : Option ℕ) (after : List ℕ) : Type 0 where
  pub fits : length xs ≤ length list → (r ≡ Some (length xs)) × (after ≡ xs ++ drop (length xs) list)
  pub short : length list < length xs → (r ≡ None) × (after ≡ list)

-- is the same open to the gate in both?
abbrev pub alike_at : Meaning → Meaning → ℕ → Bool
alike_at m n g = list_all (λ p. beq (domains m g p) (domains n g p)) (range_with_len 0 m.width)

-- is the same open to every gate of the first in both?
abbrev pub alike : Meaning → Meaning → Bool
alike m n = list_all (alike_at m n) (range_with_len 0 m.gates)
