-- The bounds of a plan and of what serves it. The code has each as a constant, which a contract holds to the number here.
use Rattle.std.specs.Prelude.{ℕ, ◌+◌, ◌*◌}

abbrev pub most_gates : ℕ
most_gates = 32

-- positions of a gate
abbrev pub most_width : ℕ
most_width = 256

abbrev pub most_rules : ℕ
most_rules = 64

-- members of one Total
abbrev pub most_members : ℕ
most_members = most_gates

-- ranges of one Positions field
abbrev pub most_ranges : ℕ
most_ranges = 128

-- the furthest that the constant c of a rule lies from 0
abbrev pub most_shift : ℕ
most_shift = 255

-- cells of a store: a position of a gate is one
abbrev pub most_cells : ℕ
most_cells = most_gates * most_width

-- readers of changes: exactly so many
abbrev pub readers : ℕ
readers = 4

-- saves that an operator holds open
abbrev pub most_saves : ℕ
most_saves = 32

-- marks of a store: one for each open save, and one for each gate that a search goes into
abbrev pub most_marks : ℕ
most_marks = most_saves + most_gates
