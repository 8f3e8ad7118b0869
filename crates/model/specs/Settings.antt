-- Settings. A setting has one position for each gate: which are permitted, and which of them is the first.
use Rattle.std.specs.Prelude.{◌≡◌, ℕ, ◌<◌, T, ◌⊎◌, List, [], ◌∷◌, length, Some, None, Option, slice_index}
use Rattle.model.specs.Families.{Family, ◌∈◌}
use Rattle.model.specs.Rules.{Rule, Meets}
use Rattle.model.specs.Plans.{Plan}

-- the position of gate g
abbrev pub at : List ℕ → ℕ → ℕ
at setting g = slice_index setting g

-- the setting lies within the domains and meets all rules
pub record Permitted (plan : Plan) (domains : Family) (setting : List ℕ) : Type 0 where
  pub whole : length setting ≡ plan.gates
  pub within : (g : ℕ) → g < plan.gates → T (domains g (at setting g))
  pub meets : (r : Rule) → r ∈ plan.rules → Meets (at setting) r

-- dictionary order, gate 0 first
abbrev pub Before : List ℕ → List ℕ → Type 0
Before [] [] = ⊥
Before [] (b ∷ ys) = ⊥
Before (a ∷ xs) [] = ⊥
Before (a ∷ xs) (b ∷ ys) = (a < b) ⊎ ((a ≡ b) × Before xs ys)

-- the dictionary-first setting of those meant, or none where there is none
abbrev pub First : (List ℕ → Type 0) → Option (List ℕ) → Type 0
First Meant None = (setting : List ℕ) → Meant setting → ⊥
First Meant (Some setting) = Meant setting × ((other : List ℕ) → Meant other → (setting ≡ other) ⊎ Before setting other)
