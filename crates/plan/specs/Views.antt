-- What a plan as the code holds it stands for.
use Rattle.std.specs.Prelude.{false, ◌&&◌, List, [], map, take, nat_lt, slice_index_or}
use Rattle.model.specs.Rules.{Rule, rule_of}
use Rattle.model.specs.Plans.{Load}
use Rattle.plan.specs.declared.Plan.{Plan}

abbrev pub rules_of : Plan → List Rule
rules_of p = map rule_of (take p.count p.rules)

-- the plan, and what its table of starts says of the gates and positions that there are
abbrev pub load_of : Plan → Load
load_of p = record {
  plan = record { gates = p.gates; width = p.width; rules = rules_of p };
  start = λ g q. nat_lt g p.gates && (nat_lt q p.width && slice_index_or (slice_index_or p.starts g []) q false);
}
