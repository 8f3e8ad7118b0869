-- Plans, and what a load leaves.
use Rattle.std.specs.Prelude.{ℕ, ◌<◌, ◌≤◌, T, List, length}
use Rattle.model.specs.Bounds.{most_gates, most_width, most_rules}
use Rattle.model.specs.Families.{Family, ◌∈◌}
use Rattle.model.specs.Rules.{Rule, offset, near, not_above, total}

-- how many gates there are, how many positions a gate has, and the rules in text order
pub record Plan : Type 0 where
  pub gates : ℕ
  pub width : ℕ
  pub rules : List Rule

-- the plan, and the domains that the gates start with
pub record Load : Type 0 where
  pub plan : Plan
  pub start : Family

-- every gate that a rule names is one of the n gates, and a Total has a member
abbrev pub NamesBelow : ℕ → Rule → Type 0
NamesBelow n (offset x y c) = (x < n) × (y < n)
NamesBelow n (near x y d) = (x < n) × (y < n)
NamesBelow n (not_above x y c) = (x < n) × (y < n)
NamesBelow n (total low high ms) = ((m : ℕ × ℕ) × (m ∈ ms)) × ((m : ℕ × ℕ) → m ∈ ms → m.0 < n)

abbrev pub WellNamed : Plan → Type 0
WellNamed plan = (r : Rule) → r ∈ plan.rules → NamesBelow plan.gates r

-- what holds of every load that was accepted
pub record SoundLoad (load : Load) : Type 0 where
  pub some_gates : 1 ≤ load.plan.gates
  pub few_gates : load.plan.gates ≤ most_gates
  pub some_positions : 1 ≤ load.plan.width
  pub few_positions : load.plan.width ≤ most_width
  pub few_rules : length load.plan.rules ≤ most_rules
  pub named : WellNamed load.plan
  pub inside : (g p : ℕ) → T (load.start g p) → (g < load.plan.gates) × (p < load.plan.width)
