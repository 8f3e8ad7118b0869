-- What is said of the memory has at most one proof, so that it can stand in a type.
use Rattle.std.specs.Prelude.{ℕ, List, [], ◌∷◌, Some, None, Option}
use Rattle.std.specs.Coded.{×_prop, Unit-prop}
use Rattle.std.proofs.Props.{props}
use Rattle.store.specs.Meaning.{Meaning, cut}
use Rattle.store.specs.Calls.{Least, Greatest}
use Rattle.bounds.specs.declared.ends.Ends.{Ends}
use Rattle.bounds.specs.declared.ends.Memory.{Memory}
use Rattle.bounds.specs.Ends.{Right, Held, Remembered}

pub Least-prop : (m : Meaning) (g : ℕ) (o : Option ℕ) → IsProp (Least m g o)
Least-prop m g None = hlevel props
Least-prop m g (Some p) = hlevel props

pub Greatest-prop : (m : Meaning) (g : ℕ) (o : Option ℕ) → IsProp (Greatest m g o)
Greatest-prop m g None = hlevel props
Greatest-prop m g (Some p) = hlevel props

pub Right-prop : (m : Meaning) (ends : Ends) → IsProp (Right m ends)
Right-prop m ends = hlevel (props, Least-prop, Greatest-prop)

pub Held-prop : (m : Meaning) (ks : List (ℕ → ℕ)) (table : List (Option Ends)) → IsProp (Held m ks table)
Held-prop m [] table = Unit-prop
Held-prop m (k ∷ ks) table = ×_prop (hlevel (props, Right-prop)) (Held-prop (cut m (k ∷ ks)) ks table)

pub Remembered-prop : (m : Meaning) (x : Memory) → IsProp (Remembered m x)
Remembered-prop m x = hlevel (props, Right-prop, Held-prop)
