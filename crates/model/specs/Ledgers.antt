-- The ledger: for each gate a domain, and for each reader and gate a noted set. It is fed the load and the calls that stand.
use Rattle.std.specs.Prelude.{◌≡◌, ℕ, zero, suc, Bool, cond, not, ◌&&◌, List, [], ◌∷◌, ◌++◌, ◌==◌}
use Rattle.model.specs.Families.{Family}
use Rattle.model.specs.Rules.{Rule}
use Rattle.model.specs.Settled.{Largest}
use Rattle.model.specs.Plans.{Load}
use Rattle.model.specs.Calls.{Narrowing, leaves, Call, narrow, save, restore, note, settle, ask}

pub record Ledger : Type 0 where
  pub domains : Family
  pub noted : ℕ → Family

-- load sets each gate's domain and noted sets to the positions that the gate starts with
abbrev pub opened : Load → Ledger
opened load = record { domains = load.start; noted = λ r. load.start }

abbrev pub narrowed : Narrowing → Family → Family
narrowed c d h q = d h q && leaves c h q

-- the ledger before and after a call
abbrev pub Entered : List Rule → Call → Ledger → Ledger → Type 0
Entered rules (narrow c) l m = m ≡ record { domains = narrowed c l.domains; noted = l.noted }
Entered rules save l m = m ≡ l
Entered rules restore l m = m ≡ l
Entered rules (note r) l m = m ≡ record { domains = l.domains; noted = λ k. cond (k == r) l.domains (l.noted k) }
Entered rules settle l m = Largest rules l.domains m.domains × (m.noted ≡ l.noted)
Entered rules (ask q) l m = m ≡ l

-- the ledger before and after a string of calls
abbrev pub Fed : List Rule → List Call → Ledger → Ledger → Type 0
Fed rules [] l m = m ≡ l
Fed rules (c ∷ cs) l m = (k : Ledger) × Entered rules c l k × Fed rules cs k m

-- the numbers below w that pass the test, ascending
abbrev pub ascending : ℕ → (ℕ → Bool) → List ℕ
ascending zero test = []
ascending (suc w) test = ascending w test ++ cond (test w) (w ∷ []) []

-- the reader's changes for the gate: the noted set less the domain, ascending
abbrev pub changes_of : ℕ → Ledger → ℕ → ℕ → List ℕ
changes_of w l r g = ascending w (λ p. l.noted r g p && not (l.domains g p))
