-- What every store means.
use Rattle.std.specs.Prelude.{◌≡◌, ℕ, ◌≤◌, cond, T, List, [], ◌∷◌, ◌++◌, length, take, ◌==◌}
use Rattle.model.specs.Bounds.{most_gates, most_width, most_marks}
use Rattle.model.specs.Families.{Family}
use Rattle.model.specs.Ledgers.{ascending}
use Rattle.model.specs.Planners.{open_in, Once, all_below}

-- cells: how many positions of gates the store can take; gone: the positions that have left each gate, oldest first;
-- marks: the newest first, each with the length of every gone list when it was made
pub record Meaning : Type 0 where
  pub cells : ℕ
  pub gates : ℕ
  pub width : ℕ
  pub gone : ℕ → List ℕ
  pub marks : List (ℕ → ℕ)

-- of a gate and a position: is the position open to the gate?
abbrev pub domains : Meaning → Family
domains m = open_in m.gates m.width m.gone

-- the positions open to the gate, ascending
abbrev pub domain : Meaning → ℕ → List ℕ
domain m g = ascending m.width (domains m g)

-- how many positions are left to the gate
abbrev pub left : Meaning → ℕ → ℕ
left m g = length (domain m g)

-- a function changed at one place
abbrev pub changed_at : {A : Type 0} → (ℕ → A) → ℕ → A → ℕ → A
changed_at f g x h = cond (h == g) x (f h)

-- these have left the gate, in this order
abbrev pub appended : Meaning → ℕ → List ℕ → Meaning
appended m g xs = record {
  cells = m.cells;
  gates = m.gates;
  width = m.width;
  gone = changed_at m.gone g (m.gone g ++ xs);
  marks = m.marks;
}

-- just reset: nothing has left, and there is no mark
abbrev pub fresh : ℕ → ℕ → ℕ → Meaning
fresh c n w = record { cells = c; gates = n; width = w; gone = λ _. []; marks = [] }

abbrev pub saved : Meaning → Meaning
saved m = record {
  cells = m.cells;
  gates = m.gates;
  width = m.width;
  gone = m.gone;
  marks = (λ h. length (m.gone h)) ∷ m.marks;
}

-- every gone list cut back to the newest of the marks, which is removed
abbrev pub cut : Meaning → List (ℕ → ℕ) → Meaning
cut m [] = m
cut m (k ∷ ks) = record {
  cells = m.cells;
  gates = m.gates;
  width = m.width;
  gone = λ h. take (k h) (m.gone h);
  marks = ks;
}

abbrev pub restored : Meaning → Meaning
restored m = cut m m.marks

-- the newest mark is not beyond the lists
abbrev pub Marked : (ℕ → List ℕ) → List (ℕ → ℕ) → Type 0
Marked gone [] = Unit {0}
Marked gone (k ∷ ks) = (h : ℕ) → k h ≤ length (gone h)

-- what holds of every store's meaning
pub record Sound (m : Meaning) : Type 0 where
  pub few_gates : m.gates ≤ most_gates
  pub few_positions : m.width ≤ most_width
  pub few_marks : length m.marks ≤ most_marks
  pub once : (h : ℕ) → Once (m.gone h)
  pub below : (h : ℕ) → T (all_below m.width (m.gone h))
  pub outside : (h : ℕ) → m.gates ≤ h → m.gone h ≡ []
  pub marked : Marked m.gone m.marks
