-- A planner by what it means: what its store means (gone lists and marks), its notes, and what each call does to them.
use Rattle.std.specs.Prelude.{◌≡◌, ℕ, ◌<◌, Bool, true, false, cond, not, ◌&&◌, T, List, [], ◌∷◌, ◌++◌, length, take, drop, Some, None, Option, ◌==◌, nat_le, nat_lt}
use Rattle.std.specs.List.{list_all}
use Rattle.model.specs.declared.refusal.Refusal.{Refusal}
use Rattle.model.specs.declared.refusal.Refusal.TheVariants.{NoGate, NoPosition, TooManySaves, NoSave, NoReader, ListTooShort}
use Rattle.model.specs.Bounds.{readers, most_saves}
use Rattle.model.specs.Families.{Family, has}
use Rattle.model.specs.Settled.{Largest}
use Rattle.model.specs.Plans.{Plan, Load, WellNamed}
use Rattle.model.specs.Calls.{strike, bind, keep, changes, show, solve, Call, narrow, save, restore, note, settle, ask}
use Rattle.model.specs.Ledgers.{narrowed, ascending}

-- an open save: the length of every gone list then (the store's mark), and the notes then
pub record Save : Type 0 where
  pub mark : ℕ → ℕ
  pub notes : ℕ → ℕ → ℕ

-- For each gate the positions that have left, in order; for each reader and gate the gone length at the note; the open saves, newest first.
pub record Planner : Type 0 where
  pub gone : ℕ → List ℕ
  pub notes : ℕ → ℕ → ℕ
  pub saves : List Save

-- the domains that the gone lists of so many gates, each of such a width, leave
abbrev pub open_in : ℕ → ℕ → (ℕ → List ℕ) → Family
open_in gates width gone g p = nat_lt g gates && (nat_lt p width && not (has (gone g) p))

-- the same of a plan's gates
abbrev pub open_beside : Plan → (ℕ → List ℕ) → Family
open_beside plan gone = open_in plan.gates plan.width gone

abbrev pub domains_of : Plan → Planner → Family
domains_of plan s = open_beside plan s.gone

-- the gate's domain, ascending
abbrev pub domain : Plan → Planner → ℕ → List ℕ
domain plan s g = ascending plan.width (domains_of plan s g)

-- the positions gone since the reader's note, ascending
abbrev pub changed : Plan → Planner → ℕ → ℕ → List ℕ
changed plan s r g = ascending plan.width (has (drop (s.notes r g) (s.gone g)))

-- the list has each of its numbers once
abbrev pub Once : List ℕ → Type 0
Once [] = Unit {0}
Once (p ∷ ps) = (T (has ps p) → ⊥) × Once ps

-- all of the list are below w
abbrev pub all_below : ℕ → List ℕ → Bool
all_below w ps = list_all (λ p. nat_lt p w) ps

-- where the test fails this refusal, else what is said next
abbrev pub unless : Bool → Refusal → Option Refusal → Option Refusal
unless true k next = next
unless false k next = Some k

-- why a planner that holds a plan refuses the call, or none
abbrev pub refusal : Plan → Planner → Call → Option Refusal
refusal plan s (narrow (strike g p)) = unless (nat_lt g plan.gates) NoGate (unless (nat_lt p plan.width) NoPosition None)
refusal plan s (narrow (bind g p)) = unless (nat_lt g plan.gates) NoGate (unless (nat_lt p plan.width) NoPosition None)
refusal plan s (narrow (keep g ps)) = unless (nat_lt g plan.gates) NoGate (unless (all_below plan.width ps) NoPosition None)
refusal plan s save = unless (nat_lt (length s.saves) most_saves) TooManySaves None
refusal plan s restore = unless (nat_lt 0 (length s.saves)) NoSave None
refusal plan s (note r) = unless (nat_lt r readers) NoReader None
refusal plan s settle = None
refusal plan s (ask (changes r g k)) =
    unless (nat_lt r readers) NoReader
    (unless (nat_lt g plan.gates) NoGate
    (unless (nat_le (length (changed plan s r g)) k) ListTooShort None))
refusal plan s (ask (show g k)) = unless (nat_lt g plan.gates) NoGate (unless (nat_le (length (domain plan s g)) k) ListTooShort None)
refusal plan s (ask (solve k)) = unless (nat_le plan.gates k) ListTooShort None

-- The gone list of each gate, and the note of each reader for each gate, are these.
abbrev pub GoneIs : Plan → Planner → (ℕ → List ℕ) → Type 0
GoneIs plan e gone = (g : ℕ) → g < plan.gates → e.gone g ≡ gone g

abbrev pub NotesAre : Plan → (ℕ → ℕ → ℕ) → (ℕ → ℕ → ℕ) → Type 0
NotesAre plan new notes = (r g : ℕ) → r < readers → g < plan.gates → new r g ≡ notes r g

-- A call that takes positions out: gone lists grow, hold each position once, and leave the domains as said; notes and saves stay.
pub record Shrunk (plan : Plan) (s e : Planner) (Left : Family → Type 0) : Type 0 where
  pub grows : (g : ℕ) → g < plan.gates → (more : List ℕ) × (e.gone g ≡ s.gone g ++ more)
  pub once : (g : ℕ) → g < plan.gates → Once (e.gone g)
  pub left : Left (domains_of plan e)
  pub notes_stay : NotesAre plan e.notes s.notes
  pub saves_stay : e.saves ≡ s.saves

pub record Saved (plan : Plan) (s e : Planner) : Type 0 where
  pub gone_stay : GoneIs plan e s.gone
  pub notes_stay : NotesAre plan e.notes s.notes
  pub new : Save
  pub one_more : e.saves ≡ new ∷ s.saves
  pub lengths : (g : ℕ) → g < plan.gates → new.mark g ≡ length (s.gone g)
  pub notes_held : NotesAre plan new.notes s.notes

pub record Restored (plan : Plan) (s e : Planner) : Type 0 where
  pub newest : Save
  pub one_less : s.saves ≡ newest ∷ e.saves
  pub gone_cut : GoneIs plan e (λ g. take (newest.mark g) (s.gone g))
  pub notes_back : NotesAre plan e.notes newest.notes

pub record Noted (plan : Plan) (s e : Planner) (notes : ℕ → ℕ → ℕ) : Type 0 where
  pub gone_stay : GoneIs plan e s.gone
  pub notes_now : NotesAre plan e.notes notes
  pub saves_stay : e.saves ≡ s.saves

-- the planner before and after an accepted call
abbrev pub Done : Plan → Call → Planner → Planner → Type 0
Done plan (narrow c) s e = Shrunk plan s e (λ d. d ≡ narrowed c (domains_of plan s))
Done plan settle s e = Shrunk plan s e (λ d. Largest plan.rules (domains_of plan s) d)
Done plan save s e = Saved plan s e
Done plan restore s e = Restored plan s e
Done plan (note r) s e = Noted plan s e (λ k g. cond (k == r) (length (s.gone g)) (s.notes k g))
Done plan (ask q) s e = Noted plan s e s.notes

-- from one planner to another by a string of calls, of which these were accepted
pub data Runs (plan : Plan) : Planner → List Call → List Call → Planner → Type 0 where
  stops : {s : Planner} → Runs plan s [] [] s
  accepts : {s m e : Planner} {c : Call} {calls accepted : List Call}
      → refusal plan s c ≡ None → Done plan c s m → Runs plan m calls accepted e → Runs plan s (c ∷ calls) (c ∷ accepted) e
  refuses : {s e : Planner} {c : Call} {calls accepted : List Call} (k : Refusal)
      → refusal plan s c ≡ Some k → Runs plan s calls accepted e → Runs plan s (c ∷ calls) accepted e

-- a planner just loaded
pub record Loaded (load : Load) (s : Planner) : Type 0 where
  pub named : WellNamed load.plan
  pub once : (g : ℕ) → g < load.plan.gates → Once (s.gone g)
  pub starts : domains_of load.plan s ≡ load.start
  pub noted : NotesAre load.plan s.notes (λ r g. length (s.gone g))
  pub closed : s.saves ≡ []
