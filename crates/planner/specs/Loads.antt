-- What a load answers and leaves.
use Rattle.std.specs.Prelude.{◌≡◌, ℕ, ◌*◌, ◌≤◌, Bool, cond, List, [], length, Ok, Err, Result, nat_le}
use Rattle.model.specs.declared.refusal.Refusal.{Refusal}
use Rattle.model.specs.declared.refusal.Refusal.TheVariants.{NoRoom}
use Rattle.model.specs.Plans.{Load}
use Rattle.text.specs.declared.fault.Fault.{Fault}
use Rattle.text.specs.Fields.{refused}
use Rattle.plan.specs.Plans.{Reading}
use Rattle.store.specs.Meaning.{Meaning, domains, appended}
use Rattle.store.specs.Calls.{Leaving}

-- there is a cell for each position of each gate
abbrev pub has_room : ℕ → Load → Bool
has_room cells load = nat_le (load.plan.gates * load.plan.width) cells

-- the bytes read; the text's own fault; or that the store cannot take the plan, told at place 0
abbrev pub load_answer : ℕ → Result Reading Fault → Result ℕ Fault
load_answer cells (Ok x) = cond (has_room cells x.load) (Ok x.read) (refused NoRoom 0)
load_answer cells (Err e) = Err e

-- no more bytes were read than the text has
abbrev pub Within : List ℕ → Result ℕ Fault → Type 0
Within text (Ok read) = read ≤ length text
Within text (Err e) = Unit {0}

abbrev pub begin_answer : ℕ → Load → Result (Unit {0}) Refusal
begin_answer cells load = cond (has_room cells load) (Ok tt) (Err NoRoom)

-- all but these positions have left the gate, in some order
abbrev pub Starts : Meaning → ℕ → (ℕ → Bool) → Meaning → Type 0
Starts m g kept m' = (xs : List ℕ) × Leaving m g kept xs × (m' ≡ appended m g xs)

-- the store has just begun with the load
pub record Begun (load : Load) (m : Meaning) : Type 0 where
  pub gates : m.gates ≡ load.plan.gates
  pub width : m.width ≡ load.plan.width
  pub marks : m.marks ≡ []
  pub starts : domains m ≡ load.start
