-- The rules of a plan, and when one position a gate meets them.
use Rattle.std.specs.Prelude.{◌≡◌, ℕ, ◌+◌, ◌*◌, ◌≤◌, List, [], ◌∷◌, map, take, ℤ, pos, ◌+ℤ◌, ◌≤ℤ◌}
use Rattle.model.specs.declared.rule.members.Members.{Members}
use Rattle.model.specs.declared.rule.Rule.{Rule as Code}
use Rattle.model.specs.declared.rule.Rule.TheVariants.{Offset, Near, NotAbove, Total}
use Rattle.model.specs.Members.{member_of}

-- The gates x and y of a pair rule, then its number. A Total has low, high, and its members: gate and weight.
pub data Rule : Type 0 where
  offset : ℕ → ℕ → ℤ → Rule
  near : ℕ → ℕ → ℕ → Rule
  not_above : ℕ → ℕ → ℤ → Rule
  total : ℕ → ℕ → List (ℕ × ℕ) → Rule

abbrev pub listed : Members → List (ℕ × ℕ)
listed ms = map member_of (take ms.count ms.list)

-- the rule that a value of the code stands for
abbrev pub rule_of : Code → Rule
rule_of (Offset r) = offset r.pair.x r.pair.y r.c
rule_of (Near r) = near r.pair.x r.pair.y r.d
rule_of (NotAbove r) = not_above r.pair.x r.pair.y r.c
rule_of (Total r) = total r.low r.high (listed r.members)

-- which positions a of x and b of y a pair rule admits together
abbrev pub OffsetAdmits : ℤ → ℕ → ℕ → Type 0
OffsetAdmits c a b = pos a ≡ (pos b +ℤ c)

abbrev pub NearAdmits : ℕ → ℕ → ℕ → Type 0
NearAdmits d a b = (a ≤ b + d) × (b ≤ a + d)

abbrev pub NotAboveAdmits : ℤ → ℕ → ℕ → Type 0
NotAboveAdmits c a b = pos a ≤ℤ (pos b +ℤ c)

-- the sum of the members' shares, each its weight times its gate's position
abbrev pub shares : List (ℕ × ℕ) → (ℕ → ℕ) → ℕ
shares [] at = 0
shares (m ∷ ms) at = m.1 * at m.0 + shares ms at

-- the gates' positions meet the rule
abbrev pub Meets : (ℕ → ℕ) → Rule → Type 0
Meets at (offset x y c) = OffsetAdmits c (at x) (at y)
Meets at (near x y d) = NearAdmits d (at x) (at y)
Meets at (not_above x y c) = NotAboveAdmits c (at x) (at y)
Meets at (total low high ms) = (low ≤ shares ms at) × (shares ms at ≤ high)
