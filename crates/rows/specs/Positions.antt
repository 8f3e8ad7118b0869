-- What goes along a row's positions.
use Rattle.std.specs.Prelude.{◌≡◌, ℕ, ◌+◌, None, Some, Option}
use Rattle.rows.specs.declared.Row.{Row}
use Rattle.rows.specs.declared.positions.Positions.{Positions}
use Rattle.rows.specs.Rows.{Next}

-- it looks for the positions of the row from n on
abbrev pub LooksAt : Positions → Row → ℕ → Type 0
LooksAt s r n = (s.row ≡ r) × (s.from ≡ n)

-- it gives the first position from where it looks on, and then looks behind that
abbrev pub GivesNext : Positions → Option ℕ → Positions → Type 0
GivesNext s None t = Next s.row s.from None × (t.row ≡ s.row)
GivesNext s (Some p) t = Next s.row s.from (Some p) × LooksAt t s.row (p + 1)
