-- What the reading of a text means, with no word of how it is done.
use Rattle.std.specs.Prelude.{◌≡◌, ℕ, ◌≤◌, true, false, ◌⊎◌, List, [], ◌∷◌, ◌++◌, length, Some, None, Ok, Err, Result}
use Rattle.model.specs.Plans.{SoundLoad}
use Rattle.text.specs.declared.fault.Fault.{Fault}
use Rattle.text.specs.Fields.{next_at}
use Rattle.plan.specs.Plans.{Field, plan_field, is_end, load_in, fault, Reading}

-- ps are the fields from the text's start up to a place: each is faultless behind those before it, and none is End
pub data Clean (text : List ℕ) : List Field → ℕ → Type 0 where
  start : Clean text [] 0
  more : {ps : List Field} {at : ℕ} (p : Field) → Clean text ps at → plan_field text at ≡ Ok p → fault ps p ≡ None → is_end p.kind ≡ false
      → Clean text (ps ++ (p ∷ [])) (next_at (Ok p) at)

-- a plan: clean fields, and then End
pub record Says (text : List ℕ) (r : Reading) : Type 0 where
  pub fields : List Field
  pub at : ℕ
  pub end : Field
  pub clean : Clean text fields at
  pub here : plan_field text at ≡ Ok end
  pub ends : is_end end.kind ≡ true
  pub faultless : fault fields end ≡ None
  pub load : r.load ≡ load_in fields
  pub read : r.read ≡ next_at (Ok end) at

-- a fault: clean fields, and then the first that is missing or faulty
pub record Fails (text : List ℕ) (e : Fault) : Type 0 where
  pub fields : List Field
  pub clean : Clean text fields e.place
  pub here : (plan_field text e.place ≡ Err e) ⊎ ((p : Field) × (plan_field text e.place ≡ Ok p) × (fault fields p ≡ Some e.refusal))

abbrev pub Means : List ℕ → Result Reading Fault → Type 0
Means text (Ok r) = Says text r
Means text (Err e) = Fails text e

-- the text means this and nothing else
pub record MeansOnly (text : List ℕ) (r : Result Reading Fault) : Type 0 where
  pub means : Means text r
  pub nothing_else : (other : Result Reading Fault) → Means text other → other ≡ r

-- what is read is within the bounds, names only gates and positions that there are, and was read from the text
abbrev pub Sound : List ℕ → Result Reading Fault → Type 0
Sound text (Ok r) = SoundLoad r.load × (r.read ≤ length text)
Sound text (Err e) = Unit {0}
