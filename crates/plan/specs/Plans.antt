-- The plan that a text says, or its first fault. Every check and the plan itself go by the fields before, and by nothing else.
use Rattle.std.specs.Prelude.{ℕ, zero, suc, Bool, true, false, not, ◌&&◌, ◌||◌, List, [], ◌∷◌, ◌++◌, length, drop, Some, None, Ok, Err, Option, Result, ◌==◌, nat_le, nat_lt}
use Rattle.std.specs.List.{flat_map, list_any}
use Rattle.std.specs.Option.{is_none, option_to_list}
use Rattle.model.specs.Bounds.{most_rules}
use Rattle.model.specs.Rules.{Rule as Law}
use Rattle.model.specs.Plans.{Load}
use Rattle.model.specs.declared.refusal.Refusal.{Refusal}
use Rattle.model.specs.declared.refusal.Refusal.TheVariants.{Truncated, Misplaced, OutOfRange, TooManyRules}
use Rattle.text.specs.declared.fault.Fault.{Fault}
use Rattle.text.specs.declared.head.Head.{Head as Size}
use Rattle.text.specs.declared.kind.PlanKind.{PlanKind}
use Rattle.text.specs.declared.kind.PlanKind.TheVariants.{Head, Positions, Rule, End}
use Rattle.text.specs.Fields.{Part, refused, field_at, next_at}
use Rattle.text.specs.Kinds.{plan_kind}
use Rattle.text.specs.Payloads.{head_of, rule_in}
use Rattle.text.specs.Ranges.{covered, listing_of}

abbrev pub Field : Type 0
Field = Part PlanKind

-- the field of a plan at a place
abbrev pub plan_field : List ℕ → ℕ → Result Field Fault
plan_field text at = field_at plan_kind text at

abbrev pub is_head : PlanKind → Bool
is_head Head = true
is_head Positions = false
is_head (Rule k) = false
is_head End = false

abbrev pub is_end : PlanKind → Bool
is_end Head = false
is_end Positions = false
is_end (Rule k) = false
is_end End = true

-- gates and width, as the first field gives them
abbrev pub size_by : Option Size → Size
size_by (Some size) = size
size_by None = record { gates = 0; width = 0 }

abbrev pub size_in : List Field → Size
size_in [] = record { gates = 0; width = 0 }
size_in (p ∷ ps) = size_by (head_of p.bytes)

-- does the payload begin with the gate?
abbrev pub begins_with : ℕ → List ℕ → Bool
begins_with g [] = false
begins_with g (x ∷ xs) = x == g

abbrev pub lists_by : PlanKind → ℕ → List ℕ → Bool
lists_by Head g bytes = false
lists_by Positions g bytes = begins_with g bytes
lists_by (Rule k) g bytes = false
lists_by End g bytes = false

-- does the field list the positions of gate g?
abbrev pub lists : ℕ → Field → Bool
lists g p = lists_by p.kind g p.bytes

-- does one of the fields?
abbrev pub is_listed : List Field → ℕ → Bool
is_listed ps g = list_any (lists g) ps

-- does a field that lists the positions of gate g have q among them?
abbrev pub chosen : List Field → ℕ → ℕ → Bool
chosen ps g q = list_any (λ p. lists g p && covered (drop 1 p.bytes) q) ps

-- a gate that no field lists starts with every position, any other with those that are listed
abbrev pub opens : List Field → ℕ → ℕ → Bool
opens ps g q = not (is_listed ps g) || chosen ps g q

-- the rules, in text order
abbrev pub rules_by : PlanKind → List ℕ → ℕ → List Law
rules_by Head bytes n = []
rules_by Positions bytes n = []
rules_by (Rule k) bytes n = option_to_list (rule_in k bytes n)
rules_by End bytes n = []

abbrev pub rule_by : ℕ → Field → List Law
rule_by n p = rules_by p.kind p.bytes n

abbrev pub rules_in : List Field → List Law
rules_in ps = flat_map (rule_by (size_in ps).gates) ps

-- the plan of the fields, and the domains that its gates start with
unfoldable pub load_in : List Field → Load
load_in ps = record {
  plan = record { gates = (size_in ps).gates; width = (size_in ps).width; rules = rules_in ps };
  start = λ g q. nat_lt g (size_in ps).gates && (nat_lt q (size_in ps).width && opens ps g q);
}

-- the first field is not Head; a second Head; a gate's second Positions
abbrev pub repeated : List Field → List ℕ → Bool
repeated ps [] = false
repeated ps (g ∷ ranges) = is_listed ps g

abbrev pub misplaced_by : List Field → PlanKind → List ℕ → Bool
misplaced_by ps Head bytes = true
misplaced_by ps Positions bytes = repeated ps bytes
misplaced_by ps (Rule k) bytes = false
misplaced_by ps End bytes = false

abbrev pub misplaced : List Field → Field → Bool
misplaced [] p = not (is_head p.kind)
misplaced (q ∷ ps) p = misplaced_by (q ∷ ps) p.kind p.bytes

-- a number out of range, or numbers that do not go together
abbrev pub unfit_by : Size → PlanKind → List ℕ → Bool
unfit_by size Head bytes = is_none (head_of bytes)
unfit_by size Positions bytes = is_none (listing_of bytes size.gates size.width)
unfit_by size (Rule k) bytes = is_none (rule_in k bytes size.gates)
unfit_by size End bytes = false

-- a rule, where there are as many as a plan holds
abbrev pub full_by : PlanKind → ℕ → Bool
full_by Head count = false
full_by Positions count = false
full_by (Rule k) count = nat_le most_rules count
full_by End count = false

-- the first row of the table that applies: misplaced, unfit, too many rules
abbrev pub verdict : Bool → Bool → Bool → Option Refusal
verdict true unfit full = Some Misplaced
verdict false true full = Some OutOfRange
verdict false false true = Some TooManyRules
verdict false false false = None

-- what is wrong with a field behind earlier ones
unfoldable pub fault : List Field → Field → Option Refusal
fault ps p = verdict (misplaced ps p) (unfit_by (size_in ps) p.kind p.bytes) (full_by p.kind (length (rules_in ps)))

-- what an accepted text gives: the load, and how many bytes were read
pub record Reading : Type 0 where
  pub load : Load
  pub read : ℕ

-- what comes of a field: its fault; the plan, if it ends it; or what the rest says
abbrev pub decided : Option Refusal → Bool → ℕ → Reading → Result Reading Fault → Result Reading Fault
decided (Some why) end at reading rest = refused why at
decided None true at reading rest = Ok reading
decided None false at reading rest = rest

abbrev pub asked : Result Field Fault → (Field → Result Reading Fault) → Result Reading Fault
asked (Ok p) f = f p
asked (Err e) f = Err e

-- the reading of a text from a place, behind earlier fields: the first fault ends it
unfoldable pub read_from : ℕ → List ℕ → ℕ → List Field → Result Reading Fault
read_from zero text at ps = refused Truncated at
read_from (suc k) text at ps =
    asked (plan_field text at)
    (λ p. decided (fault ps p) (is_end p.kind) at (record { load = load_in ps; read = next_at (Ok p) at }) (read_from k text (next_at (Ok p) at) (ps ++ (p ∷ []))))

-- The plan that a text begins with, or its first fault. Each field has three bytes at least, so there are no more fields than bytes.
abbrev pub plan_text : List ℕ → Result Reading Fault
plan_text text = read_from (length text) text 0 []
