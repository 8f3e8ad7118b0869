-- What a question leaves in the caller's list, and when two stores agree.
use Rattle.std.specs.Prelude.{◌≡◌, ℕ, ◌≤◌, List, ◌++◌, length, take, drop, Some, Ok, Err, Result}
use Rattle.model.specs.declared.refusal.Refusal.{Refusal}
use Rattle.model.specs.Plans.{Plan, Load}
use Rattle.model.specs.Calls.{Question, ask}
use Rattle.model.specs.Planners.{Planner}
use Rattle.model.specs.Answers.{numbers}
use Rattle.store.specs.Meaning.{Meaning, domains}
use Rattle.store.specs.declared.Store.{Ghosts}
use Rattle.planner.specs.declared.Planner.{Planner as Held}
use Rattle.planner.specs.States.{state, loaded, Made}

-- at the front of the list these, behind them what it held; a refused call leaves the list alone
abbrev pub Wrote : List ℕ → List ℕ → Result ℕ Refusal → List ℕ → Type 0
Wrote xs list (Ok a) after = (a ≡ length xs) × (after ≡ xs ++ drop (length xs) list)
Wrote xs list (Err k) after = after ≡ list

-- an answer is no more than the list has room for
abbrev pub Fits : List ℕ → Result ℕ Refusal → Type 0
Fits list (Ok a) = a ≤ length list
Fits list (Err k) = Unit {0}

-- A question on a planner that was given a load: what it tells stands at the front of the list.
abbrev pub Asks : {S : Type 0} {g : Ghosts S} → Held S g → Question → (Plan → Planner → List ℕ) → List ℕ → Result ℕ Refusal → List ℕ → Type 0
Asks p q told list a after =
    (load : Load) → loaded p ≡ Some load
    → Made load.plan (state p) (ask q) (λ n. numbers (take n after)) a (state p) × Wrote (told load.plan (state p)) list a after

-- gate count, width and all domains agree
abbrev pub Agree : Meaning → Meaning → Type 0
Agree m n = (m.gates ≡ n.gates) × (m.width ≡ n.width) × (domains m ≡ domains n)
