-- How the arrays of a sparse store stand for its gates.
use Rattle.std.specs.Prelude.{◌≡◌, ℕ, zero, suc, ◌+◌, ◌-◌, ◌*◌, ◌<◌, ◌≤◌, true, cond, ◌⊎◌, List, [], ◌∷◌, map, length, nat_lt, slice_index, slice_index_or, slice_set}
use Rattle.std.specs.List.{range_with_len}
use Rattle.model.specs.Bounds.{most_gates, most_width, most_marks}
use Rattle.model.specs.Families.{has}

-- what the array has from base on
abbrev pub from : List ℕ → ℕ → ℕ → ℕ
from xs base k = slice_index xs (base + k)

-- what the array has at place or position k of gate g
abbrev pub cell : List ℕ → ℕ → ℕ → ℕ → ℕ
cell xs w g = from xs (g * w)

-- both arrays have room for so many gates and positions
abbrev pub Room : List ℕ → List ℕ → ℕ → ℕ → Type 0
Room dom map n w = (n ≤ most_gates) × (w ≤ most_width) × (n * w ≤ length dom) × (n * w ≤ length map)

-- of one gate: D gives a place's position, M a position's place, and each is the other's inverse
abbrev pub Perm : ℕ → (ℕ → ℕ) → (ℕ → ℕ) → Type 0
Perm w D M = ((k : ℕ) → k < w → (D k < w) × (M (D k) ≡ k)) × ((p : ℕ) → p < w → (M p < w) × (D (M p) ≡ p))

-- the same of all gates, as a ghost field takes it
abbrev pub Perms : List ℕ → List ℕ → ℕ → ℕ → Type 0
Perms dom map n w =
    (x : (g : ℕ) × (k : ℕ) × (g < n) × (k < w))
    → (cell dom w x.0 x.1 < w) × (cell map w x.0 x.1 < w)
    × (cell map w x.0 (cell dom w x.0 x.1) ≡ x.1) × (cell dom w x.0 (cell map w x.0 x.1) ≡ x.1)

-- no gate has more open positions than there are
abbrev pub Sizes : ℕ → ℕ → List ℕ → Type 0
Sizes n w size = (length size ≡ most_gates) × ((g : ℕ) → g < n → slice_index size g ≤ w)

-- the sizes when mark d was made
abbrev pub row : List (List ℕ) → ℕ → List ℕ
row marks d = slice_index_or marks d []

-- so many marks are made, and the table has room for all that may be
abbrev pub Table : List (List ℕ) → ℕ → Type 0
Table marks depth = (depth ≤ most_marks) × (length marks ≡ most_marks) × ((d : ℕ) → d < depth → length (row marks d) ≡ most_gates)

-- sizes only fall: from a mark to the next, and from the newest to now
abbrev pub Fall : ℕ → List (List ℕ) → ℕ → Type 0
Fall n marks depth = (g d : ℕ) → g < n → suc d < depth → slice_index (row marks (suc d)) g ≤ slice_index (row marks d) g

abbrev pub Since : ℕ → List ℕ → List (List ℕ) → ℕ → Type 0
Since n size marks depth = (g d : ℕ) → g < n → suc d ≡ depth → slice_index size g ≤ slice_index (row marks d) g

abbrev pub Within : ℕ → ℕ → List (List ℕ) → ℕ → Type 0
Within n w marks depth = (g d : ℕ) → g < n → d < depth → slice_index (row marks d) g ≤ w

-- what stands at the places lo .. hi - 1, from the last down
abbrev pub span : (ℕ → ℕ) → ℕ → ℕ → List ℕ
span D lo hi = map (λ k. D (hi - 1 - k)) (range_with_len 0 (hi - lo))

-- what has left gate g, where c positions are open
abbrev pub gone_at : List ℕ → ℕ → ℕ → ℕ → List ℕ
gone_at dom w g c = span (cell dom w g) c w

-- how many had left each gate at these sizes
abbrev pub mark_of : ℕ → ℕ → List ℕ → ℕ → ℕ
mark_of n w sizes h = cond (nat_lt h n) (w - slice_index sizes h) 0

-- the first marks, the newest of them first
abbrev pub marks_of : ℕ → ℕ → List (List ℕ) → ℕ → List (ℕ → ℕ)
marks_of n w marks zero = []
marks_of n w marks (suc d) = mark_of n w (row marks d) ∷ marks_of n w marks d

-- places a and b exchanged: the positions there, and where these positions stand
abbrev pub dom_swapped : List ℕ → ℕ → ℕ → ℕ → List ℕ
dom_swapped dom base a b = slice_set (slice_set dom (base + a) (from dom base b)) (base + b) (from dom base a)

abbrev pub map_swapped : List ℕ → List ℕ → ℕ → ℕ → ℕ → List ℕ
map_swapped dom map base a b = slice_set (slice_set map (base + from dom base b) a) (base + from dom base a) b

-- the first count places from base on are arranged anew; the other places and cells stand as they were
pub record Moved (base w count : ℕ) (dom map dom' map' : List ℕ) : Type 0 where
  pub perm : Perm w (from dom' base) (from map' base)
  pub dom_long : length dom' ≡ length dom
  pub map_long : length map' ≡ length map
  pub dom_frame : (j : ℕ) → (j < base) ⊎ (base + w ≤ j) → slice_index dom' j ≡ slice_index dom j
  pub map_frame : (j : ℕ) → (j < base) ⊎ (base + w ≤ j) → slice_index map' j ≡ slice_index map j
  pub tail : (k : ℕ) → count ≤ k → k < w → from dom' base k ≡ from dom base k

-- the same, and the listed positions among the first count places come first, r of them
pub record Gathered (base w count : ℕ) (list : List ℕ) (r : ℕ) (dom map dom' map' : List ℕ) : Type 0 where
  pub moved : Moved base w count dom map dom' map'
  pub few : r ≤ count
  pub only : (q : ℕ) → q < w → from map' base q < r → has list q ≡ true
  pub stays : (q : ℕ) → q < w → from map' base q < count → has list q ≡ true → from map' base q < r
