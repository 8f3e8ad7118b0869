-- What an accepted call tells.
use Rattle.std.specs.Prelude.{◌≡◌, ℕ, ◌<◌, cond, T, ◌⊎◌, List, [], ◌∷◌, length, Some, None, Option}
use Rattle.model.specs.Plans.{Plan}
use Rattle.model.specs.Settings.{Permitted, First}
use Rattle.model.specs.Calls.{strike, bind, keep, changes, show, solve, Call, narrow, save, restore, note, settle, ask}
use Rattle.model.specs.Planners.{Planner, domains_of, domain, changed}

-- numbers, which may be none at all; whether every domain has a position; that there is no setting
pub data Answer : Type 0 where
  numbers : List ℕ → Answer
  alive : Answer
  dead : Answer
  no_setting : Answer

-- every gate has a position left
abbrev pub Alive : Plan → Planner → Type 0
Alive plan e = (g : ℕ) → g < plan.gates → (p : ℕ) × T (domains_of plan e g p)

abbrev pub solution : Option (List ℕ) → Answer
solution None = no_setting
solution (Some setting) = numbers setting

-- What a call tells, by the planner before it and after. Strike tells 1 or 0, bind and keep how many positions are left,
-- save and restore how many saves are open, note nothing, changes and show their positions.
abbrev pub Tells : Plan → Call → Planner → Planner → Answer → Type 0
Tells plan (narrow (strike g p)) s e a = a ≡ numbers (cond (domains_of plan s g p) 1 0 ∷ [])
Tells plan (narrow (bind g p)) s e a = a ≡ numbers (length (domain plan e g) ∷ [])
Tells plan (narrow (keep g ps)) s e a = a ≡ numbers (length (domain plan e g) ∷ [])
Tells plan save s e a = a ≡ numbers (length e.saves ∷ [])
Tells plan restore s e a = a ≡ numbers (length e.saves ∷ [])
Tells plan (note r) s e a = a ≡ numbers []
Tells plan settle s e a = ((a ≡ alive) × Alive plan e) ⊎ ((a ≡ dead) × (Alive plan e → ⊥))
Tells plan (ask (changes r g k)) s e a = a ≡ numbers (changed plan s r g)
Tells plan (ask (show g k)) s e a = a ≡ numbers (domain plan s g)
Tells plan (ask (solve k)) s e a = (o : Option (List ℕ)) × First (Permitted plan (domains_of plan s)) o × (a ≡ solution o)
