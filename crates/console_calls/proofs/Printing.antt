-- What is printed where the plan is accepted.
use Rattle.std.proofs.Common.{◌≡◌, ℕ, ◌≤◌, List, ◌++◌, length, Ok, Err, Result, refl, ap, ◌∙◌, subst, arith}
use Rattle.model.specs.Planners.{Planner, Loaded}
use Rattle.text.specs.declared.fault.Fault.{Fault}
use Rattle.plan.specs.Plans.{Reading, plan_text}
use Rattle.planner.specs.Loads.{load_answer}
use Rattle.console.specs.Lines.{most_input, plan_line}
use Rattle.console_calls.specs.Sessions.{Session, Adds, Prints}

-- what was answered was not refused
pub fails : {A E : Type 0} {P : Type 0} (a : A) (e : E) → ◌≡◌ {A = Result A E} (Ok a) (Err e) → P
fails a e p = let z : ◌≡◌ {A = ℕ} 0 1 = cc p in absurd (omega arith)

-- an answer of bytes comes of a plan
pub found : (cells read : ℕ) (r : Result Reading Fault) → Ok read ≡ load_answer cells r → (x : Reading) × (r ≡ Ok x)
found cells read (Ok x) e = (x, refl)
found cells read (Err e') e = fails read e' e

pub printed : (cells read : ℕ) (input out first : List ℕ) → length input ≤ most_input → Ok read ≡ load_answer cells (plan_text input)
    → (x : Reading) → plan_text input ≡ Ok x → (s : Planner) → Loaded x.load s → first ≡ plan_line x.load.plan
    → Adds first out (Session x.load.plan input s read) → Prints cells input out
printed cells read input out first short answer x is s loaded line adds =
    record {
      too_long = λ l. absurd (omega arith);
      refused = λ _ e p. fails read e (answer ∙ p);
      loaded = λ _ n p.
          let same : read ≡ n = ok_is read n (answer ∙ p) in (
            x,
            s,
            adds.0,
            is,
            loaded,
            subst (λ (k : ℕ). Session x.load.plan input s k adds.0) same adds.2,
            adds.1 ∙ ap (λ (xs : List ℕ). xs ++ adds.0) line,
          );
    }
  where
    ok_is : (a b : ℕ) → ◌≡◌ {A = Result ℕ Fault} (Ok a) (Ok b) → a ≡ b
    ok_is a b e = cc
