-- What the program prints on an input: the plan's line, and a line for each call.
use Rattle.std.specs.Prelude.{◌≡◌, ℕ, ◌<◌, ◌≤◌, ◌⊎◌, List, [], ◌++◌, length, Some, None, Ok, Err, codes}
use Rattle.model.specs.declared.refusal.Refusal.{Refusal}
use Rattle.model.specs.Plans.{Plan}
use Rattle.model.specs.Planners.{Planner, refusal, Done, Loaded}
use Rattle.model.specs.Answers.{numbers, Tells}
use Rattle.text.specs.declared.fault.Fault.{Fault}
use Rattle.text.specs.Fields.{Part, field_at, next_at}
use Rattle.plan.specs.Plans.{Reading, plan_text}
use Rattle.planner.specs.Loads.{load_answer}
use Rattle.console.specs.Lines.{most_input, plan_line, refused_line, stop_line}
use Rattle.console_calls.specs.declared.call.CallKind.{CallKind}
use Rattle.console_calls.specs.Calls.{call_kind, word_of, call_of}
use Rattle.console_calls.specs.Lines.{told_line, denied_line}

-- the call field at a place
abbrev pub IsCall : List ℕ → ℕ → Part CallKind → Type 0
IsCall input at p = field_at call_kind input at ≡ Ok p

-- From a planner and a place of the input the calls have led to another planner and place, and these bytes are what was printed on the way.
pub data Goes (plan : Plan) (input : List ℕ) (start : Planner) (from : ℕ) : Planner → ℕ → List ℕ → Type 0 where
  starts : Goes plan input start from start from []
  told : {s e : Planner} {at : ℕ} {out : List ℕ} (p : Part CallKind) (ns : List ℕ)
      → Goes plan input start from s at out → IsCall input at p → refusal plan s (call_of p.kind p.bytes) ≡ None
      → Done plan (call_of p.kind p.bytes) s e → Tells plan (call_of p.kind p.bytes) s e (numbers ns)
      → Goes plan input start from e (next_at (Ok p) at) (out ++ told_line (word_of p.kind) ns)
  denied : {s : Planner} {at : ℕ} {out : List ℕ} (p : Part CallKind) (k : Refusal)
      → Goes plan input start from s at out → IsCall input at p → refusal plan s (call_of p.kind p.bytes) ≡ Some k
      → Goes plan input start from s (next_at (Ok p) at) (out ++ denied_line (word_of p.kind) k)

-- The calls go on to the end of the input, where nothing more is printed, or to a field that is no call, which is told.
pub record Session (plan : Plan) (input : List ℕ) (start : Planner) (from : ℕ) (out : List ℕ) : Type 0 where
  pub last : Planner
  pub at : ℕ
  pub lines : List ℕ
  pub goes : Goes plan input start from last at lines
  pub ends : ((at ≡ length input) × (out ≡ lines)) ⊎ ((at < length input) × ((e : Fault) × (field_at call_kind input at ≡ Err e) × (out ≡ lines ++ stop_line e)))

-- what was added to the text is as said
abbrev pub Adds : List ℕ → List ℕ → (List ℕ → Type 0) → Type 0
Adds before after Said = (line : List ℕ) × (after ≡ before ++ line) × Said line

-- all that is printed on an input, over a store of so many cells
pub record Prints (cells : ℕ) (input out : List ℕ) : Type 0 where
  pub too_long : most_input < length input → out ≡ codes "too long\n"
  pub refused : length input ≤ most_input → (e : Fault) → load_answer cells (plan_text input) ≡ Err e → out ≡ refused_line e
  pub loaded : length input ≤ most_input → (read : ℕ) → load_answer cells (plan_text input) ≡ Ok read
      → (x : Reading) × (s : Planner) × (lines : List ℕ)
      × (plan_text input ≡ Ok x) × Loaded x.load s × Session x.load.plan input s read lines × (out ≡ plan_line x.load.plan ++ lines)
