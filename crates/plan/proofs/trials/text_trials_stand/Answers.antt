use Rattle.std.proofs.Common.{◌≡◌, Bool, true, false, ◌&&◌, ltb, Ok, Result, refl, ap}
use mathlib.Core.Path.{fun_ext}
use Rattle.model.specs.Families.{Family}
use Rattle.model.specs.Trials.{worked}
use Rattle.text.specs.declared.fault.Fault.{Fault}
use Rattle.text.specs.Fields.{field_at}
use Rattle.plan.specs.Plans.{load_in, fault, read_from, Reading}
use Rattle.plan.proofs.trials.text_trials_stand.Goals as goal

-- no field lists positions, so every one is open
and-true : (b : Bool) → (b && true) ≡ b
and-true true = refl
and-true false = refl

all_open : ◌≡◌ {A = Family} (λ g q. ltb g 3 && (ltb q 5 && true)) worked.start
all_open = fun_ext (λ g. fun_ext (λ q. ap (λ (b : Bool). ltb g 3 && b) (and-true (ltb q 5))))

read_so : Family → Result Reading Fault
read_so start = Ok (record { load = record { plan = worked.plan; start = start }; read = 39 })

pub returns : goal.returns
unfolding field_at load_in fault read_from read_so
returns c = record { empty = refl; whole = ap read_so all_open; behind = ap read_so all_open; unknown = refl }
