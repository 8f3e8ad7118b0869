-- The theorems.
use Rattle.std.specs.Prelude.{◌≡◌, ℕ, ◌<◌, T, ◌↔◌, List, Option}
use Rattle.model.specs.Bounds.{readers}
use Rattle.model.specs.Families.{Family, Inside, ◌∈◌}
use Rattle.model.specs.Rules.{Rule}
use Rattle.model.specs.Settled.{Largest}
use Rattle.model.specs.Plans.{Plan, Load, WellNamed}
use Rattle.model.specs.Settings.{Permitted, First}
use Rattle.model.specs.Calls.{Narrowing, Call, narrow, Stands, Obeys, SettleBehind, SameNarrowings}
use Rattle.model.specs.Ledgers.{Ledger, Fed, opened, changes_of}
use Rattle.model.specs.Planners.{Planner, domains_of, changed, Runs, Loaded}

-- there is one largest settled family at most
abbrev pub OneLargest : Type 0
OneLargest = (rules : List Rule) (d f e : Family) → Largest rules d f → Largest rules d e → f ≡ e

-- there is one, where no open position is past the width
abbrev pub SomeLargest : Type 0
SomeLargest = (load : Load) → ((g p : ℕ) → T (load.start g p) → (g < load.plan.gates) × (p < load.plan.width))
    → (f : Family) × Largest load.plan.rules load.start f

-- a larger family settles to a larger one
abbrev pub SettlingGrows : Type 0
SettlingGrows = (rules : List Rule) (d e f h : Family) → Inside d e → Largest rules d f → Largest rules e h → Inside f h

-- what is settled stays
abbrev pub SettlingRests : Type 0
SettlingRests = (rules : List Rule) (d f : Family) → Largest rules d f → Largest rules f f

-- settling loses no permitted setting, and permits no other
abbrev pub SettlingKeepsSettings : Type 0
SettlingKeepsSettings = (plan : Plan) (d f : Family) (setting : List ℕ)
    → WellNamed plan → Largest plan.rules d f → Permitted plan d setting ↔ Permitted plan f setting

-- there is one answer at most
abbrev pub OneAnswer : Type 0
OneAnswer = (plan : Plan) (d : Family) (a b : Option (List ℕ)) → First (Permitted plan d) a → First (Permitted plan d) b → a ≡ b

-- of every string of accepted calls some stand
abbrev pub StringsStand : Type 0
StringsStand = (load : Load) (s e : Planner) (calls accepted : List Call)
    → Loaded load s → Runs load.plan s calls accepted e → (standing : List Call) × Stands accepted standing

-- and which ones is no choice
abbrev pub OneStanding : Type 0
OneStanding = (accepted a b : List Call) → Stands accepted a → Stands accepted b → a ≡ b

-- the domains and every reader's changes are those of the ledger, which is fed only the load and what stands
pub record AsTheLedger (load : Load) (standing : List Call) (e : Planner) : Type 0 where
  pub ledger : Ledger
  pub fed : Fed load.plan.rules standing (opened load) ledger
  pub domains_agree : domains_of load.plan e ≡ ledger.domains
  pub changes_agree : (r g : ℕ) → r < readers → g < load.plan.gates → changed load.plan e r g ≡ changes_of load.plan.width ledger r g

-- what a ledger is fed decides it
abbrev pub OneLedger : Type 0
OneLedger = (rules : List Rule) (cs : List Call) (l m k : Ledger) → Fed rules cs l m → Fed rules cs l k → m ≡ k

abbrev pub StringsEndAsTheLedger : Type 0
StringsEndAsTheLedger = (load : Load) (s e : Planner) (calls accepted standing : List Call)
    → Loaded load s → Runs load.plan s calls accepted e → Stands accepted standing → AsTheLedger load standing e

-- permitted at the load, and obeys all that stands
pub record Meant (load : Load) (standing : List Call) (setting : List ℕ) : Type 0 where
  pub at_the_load : Permitted load.plan load.start setting
  pub obeys : (c : Narrowing) → narrow c ∈ standing → Obeys setting c

-- exactly those settings are permitted, and the answer of solve is the first of them
pub record Permits (load : Load) (standing : List Call) (e : Planner) : Type 0 where
  pub settings : (setting : List ℕ) → Permitted load.plan (domains_of load.plan e) setting ↔ Meant load standing setting
  pub answers : (answer : Option (List ℕ)) → First (Permitted load.plan (domains_of load.plan e)) answer ↔ First (Meant load standing) answer

abbrev pub StringsPermit : Type 0
StringsPermit = (load : Load) (s e : Planner) (calls accepted standing : List Call)
    → Loaded load s → Runs load.plan s calls accepted e → Stands accepted standing → Permits load standing e

-- domains and the answer of solve are equal
pub record Meeting (load : Load) (e f : Planner) : Type 0 where
  pub domains : domains_of load.plan e ≡ domains_of load.plan f
  pub answers : (a b : Option (List ℕ)) → First (Permitted load.plan (domains_of load.plan e)) a → First (Permitted load.plan (domains_of load.plan f)) b → a ≡ b

-- two strings, from loads that leave the same plan and domains
abbrev pub StringsMeet : Type 0
StringsMeet = (load : Load) (s e t f : Planner) (calls accepted standing calls' accepted' standing' : List Call)
    → Loaded load s → Runs load.plan s calls accepted e → Stands accepted standing
    → Loaded load t → Runs load.plan t calls' accepted' f → Stands accepted' standing'
    → SameNarrowings standing standing' → SettleBehind standing → SettleBehind standing'
    → Meeting load e f

-- Where a string of calls ends, whatever its calls, of which some are refused.
pub record Ended (load : Load) (s : Planner) (calls : List Call) (e : Planner) : Type 0 where
  pub accepted : List Call
  pub runs : Runs load.plan s calls accepted e
  pub standing : List Call
  pub stands : Stands accepted standing
  pub as_ledger : AsTheLedger load standing e
  pub permits : Permits load standing e

abbrev pub StringsEnd : Type 0
StringsEnd = (load : Load) (s e : Planner) (calls accepted : List Call) → Loaded load s → Runs load.plan s calls accepted e → Ended load s calls e

-- Where two strings end: each as said, and, if the same strikes, binds and keeps stand, in each with a settle behind them all, at one.
pub record Met (load : Load) (s : Planner) (calls : List Call) (e : Planner) (t : Planner) (calls' : List Call) (f : Planner) : Type 0 where
  pub one : Ended load s calls e
  pub two : Ended load t calls' f
  pub meeting : SameNarrowings one.standing two.standing → SettleBehind one.standing → SettleBehind two.standing → Meeting load e f
