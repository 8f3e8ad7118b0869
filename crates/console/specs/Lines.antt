-- The lines that the program prints.
use Rattle.std.specs.Prelude.{◌≡◌, ℕ, cond, string_bytes, String, List, [], ◌++◌, length, Ok, Err, codes, decimal, Result, ◌==◌, nat_lt}
use Rattle.std.specs.declared.alloc.Global.{Global}
use Rattle.model.specs.Plans.{Plan}
use Rattle.text.specs.declared.fault.Fault.{Fault}
use Rattle.text.specs.Faults.{fault_text}
use Rattle.text.specs.Fields.{Part, field_at}
use Rattle.plan.specs.Plans.{Reading, plan_text}
use Rattle.console.specs.declared.call.CallKind.{CallKind}
use Rattle.console.specs.Calls.{call_kind}

-- the most bytes of input
abbrev pub most_input : ℕ
most_input = 32768

-- a text has these bytes more at its end
abbrev pub Appends : String Global → String Global → List ℕ → Type 0
Appends old new bytes = string_bytes new ≡ string_bytes old ++ bytes

abbrev pub plan_line : Plan → List ℕ
plan_line plan = codes "plan " ++ (decimal plan.gates ++ (codes " " ++ (decimal plan.width ++ codes "\n")))

abbrev pub refused_line : Fault → List ℕ
refused_line e = codes "plan no " ++ (fault_text e ++ codes "\n")

abbrev pub stop_line : Fault → List ℕ
stop_line e = codes "stop " ++ (fault_text e ++ codes "\n")

-- a call field: no call is known yet, so each stops the program
abbrev pub call_lines : Result (Part CallKind) Fault → List ℕ
call_lines (Ok p) = elim p.kind [ ]
call_lines (Err e) = stop_line e

-- what stands behind the plan: with no byte left the program ends silently
abbrev pub behind_plan : List ℕ → ℕ → List ℕ
behind_plan input read = cond (read == length input) [] (call_lines (field_at call_kind input read))

abbrev pub answer : List ℕ → Result Reading Fault → List ℕ
answer input (Ok r) = plan_line r.load.plan ++ behind_plan input r.read
answer input (Err e) = refused_line e

-- all that is printed on an input
abbrev pub printed : List ℕ → List ℕ
printed input = cond (nat_lt most_input (length input)) (codes "too long\n") (answer input (plan_text input))
