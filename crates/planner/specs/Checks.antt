-- What is refused before a call looks at the store.
use Rattle.std.specs.Prelude.{◌≡◌, ◌≢◌, ℕ, ◌<◌, ◌≤◌, None, Ok, Err, Option, Result}
use Rattle.model.specs.declared.refusal.Refusal.{Refusal}
use Rattle.model.specs.declared.refusal.Refusal.TheVariants.{NoPlan, NoReader}
use Rattle.model.specs.Bounds.{readers}
use Rattle.model.specs.Plans.{Load}

-- a load was given, or that there is none is told
pub record PlanCheck (given : Option Load) (r : Result (Unit {0}) Refusal) : Type 0 where
  pub none : given ≡ None → r ≡ Err NoPlan
  pub some : given ≢ None → r ≡ Ok tt
  pub there : r ≡ Ok tt → given ≢ None

-- the reader is there, or is refused
pub record ReaderCheck (k : ℕ) (r : Result (Unit {0}) Refusal) : Type 0 where
  pub there : r ≡ Ok tt → k < readers
  pub done : k < readers → r ≡ Ok tt
  pub reader : readers ≤ k → r ≡ Err NoReader
