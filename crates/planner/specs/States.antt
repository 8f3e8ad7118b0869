-- What a planner means, by its plan and by what its store means.
use Rattle.std.specs.Prelude.{◌≡◌, ℕ, List, [], ◌∷◌, length, Some, None, Ok, Err, Option, Result, slice_index_or}
use Rattle.std.specs.Borrow.{Bor}
use Rattle.model.specs.declared.refusal.Refusal.{Refusal}
use Rattle.model.specs.Plans.{Plan, Load}
use Rattle.model.specs.Calls.{Call}
use Rattle.model.specs.Planners.{Planner, Save, refusal, Done}
use Rattle.model.specs.Answers.{Answer, Tells}
use Rattle.plan.specs.declared.Plan.{Plan as Read}
use Rattle.plan.specs.Views as plan
use Rattle.store.specs.Meaning.{Meaning}
use Rattle.store.specs.declared.Store.{Ghosts}
use Rattle.book.specs.declared.Notes.{Notes}
use Rattle.book.specs.Notes.{notes_in, blank}
use Rattle.planner.specs.declared.Planner.{Planner as Held}
use Rattle.planner.specs.Holdings.{load_in}

-- the store's marks, newest first, each with the notes saved beside it; the oldest save's notes lie at 0
abbrev pub saves_of : List (ℕ → ℕ) → List Notes → List Save
saves_of [] table = []
saves_of (k ∷ ks) table = record { mark = k; notes = notes_in (slice_index_or table (length ks) blank).rows } ∷ saves_of ks table

abbrev pub view : Meaning → List (List ℕ) → List Notes → Planner
view m notes saved = record { gone = m.gone; notes = notes_in notes; saves = saves_of m.marks saved }

-- a planner's meaning, by its store's
abbrev pub state : {S : Type 0} {g : Ghosts S} → Held S g → Planner
state {S} {g} p = view (g.mean p.store) p.book.notes.rows p.book.saved

abbrev pub seen : Option (Bor Read) → Option Load
seen None = None
seen (Some read) = Some (plan.load_of read.now)

-- the load that the planner was given, if any
abbrev pub loaded : {S : Type 0} {g : Ghosts S} → Held S g → Option Load
loaded p = load_in p.plan

-- accepted, done, and told; or refused, with nothing altered
abbrev pub Made : {A : Type 0} → Plan → Planner → Call → (A → Answer) → Result A Refusal → Planner → Type 0
Made plan s c tell (Ok a) e = (refusal plan s c ≡ None) × Done plan c s e × Tells plan c s e (tell a)
Made plan s c tell (Err k) e = (refusal plan s c ≡ Some k) × (e ≡ s)

-- a call on a planner that was given a load: that load is given afterwards too
abbrev pub Makes : {S A : Type 0} {g : Ghosts S} → Held S g → Call → (A → Answer) → Result A Refusal → Held S g → Type 0
Makes p c tell r q = (load : Load) → loaded p ≡ Some load → (loaded q ≡ Some load) × Made load.plan (state p) c tell r (state q)
