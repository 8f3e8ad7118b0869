-- What comes of one call field.
use Rattle.std.specs.Prelude.{◌≡◌, ℕ, ◌⊎◌, List, [], ◌∷◌, length, take, Some, None, Ok, Err, Result}
use Rattle.model.specs.declared.refusal.Refusal.{Refusal}
use Rattle.model.specs.Plans.{Plan}
use Rattle.model.specs.Calls.{Call}
use Rattle.model.specs.Planners.{Planner, refusal, Done}
use Rattle.model.specs.Answers.{numbers, Tells}
use Rattle.console_calls.specs.Lines.{told_line, denied_line}

-- an answer of one number, at the front of a list
abbrev pub Put : Result ℕ Refusal → List ℕ → Result ℕ Refusal → List ℕ → Type 0
Put (Ok n) list r after = (r ≡ Ok 1) × (take 1 after ≡ n ∷ []) × (length after ≡ length list)
Put (Err k) list r after = (r ≡ Err k) × (after ≡ list)

-- the call is accepted, and its line has what it tells; or it is refused, alters nothing, and its line has why
abbrev pub Lined : Plan → Call → List ℕ → Planner → Planner → List ℕ → Type 0
Lined plan c word s e line =
    ((ns : List ℕ) × (refusal plan s c ≡ None) × Done plan c s e × Tells plan c s e (numbers ns) × (line ≡ told_line word ns))
    ⊎ ((k : Refusal) × (refusal plan s c ≡ Some k) × (e ≡ s) × (line ≡ denied_line word k))
