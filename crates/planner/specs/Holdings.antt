-- What a planner that has a plan keeps.
use Rattle.std.specs.Prelude.{◌≡◌, ℕ, length, Some, None, Option}
use Rattle.std.specs.Coded.{Coded-set, coded_ℕ, Π_prop, →_prop}
use mathlib.Core.Logic.{∥∥₁_prop}
use Rattle.model.specs.Plans.{Load, SoundLoad}
use Rattle.plan.specs.declared.Plan.{Plan as Read}
use Rattle.plan.specs.Views.{load_of}
use Rattle.store.specs.Meaning.{Meaning}

abbrev pub load_in : Option Read → Option Load
load_in None = None
load_in (Some read) = Some (load_of read)

-- the load is sound, the store has its gates and positions, and each mark is one of the open saves
pub record Holds (m : Meaning) (load : Load) (saves : ℕ) : Type 0 where
  pub sound : ∥ SoundLoad load ∥₁
  pub gates : m.gates ≡ load.plan.gates
  pub width : m.width ≡ load.plan.width
  pub marks : saves ≡ length m.marks

Holds-prop : (m : Meaning) (load : Load) (saves : ℕ) → IsProp (Holds m load saves)
Holds-prop m load saves = λ a b i. record {
  sound = ∥∥₁_prop a.sound b.sound i;
  gates = Coded-set coded_ℕ m.gates load.plan.gates a.gates b.gates i;
  width = Coded-set coded_ℕ m.width load.plan.width a.width b.width i;
  marks = Coded-set coded_ℕ saves (length m.marks) a.marks b.marks i;
}

-- the load that was given is held, if any was
abbrev pub HoldsGiven : Meaning → Option Read → ℕ → Type 0
HoldsGiven m read saves = (load : Load) → load_in read ≡ Some load → Holds m load saves

pub HoldsGiven-prop : (m : Meaning) (read : Option Read) (saves : ℕ) → IsProp (HoldsGiven m read saves)
HoldsGiven-prop m read saves = Π_prop (λ load. →_prop (Holds-prop m load saves))
