-- The members of a Total: gate and weight.
use Rattle.std.specs.Prelude.{ℕ, Bool, true, not, ◌&&◌, List, [], ◌∷◌, ◌==◌}
use Rattle.std.specs.List.{list_any}
use Rattle.model.specs.declared.rule.member.Member.{Member}

abbrev pub member_of : Member → ℕ × ℕ
member_of m = (m.gate, m.weight)

-- is the gate a member?
abbrev pub has_gate : List (ℕ × ℕ) → ℕ → Bool
has_gate ms g = list_any (λ m. m.0 == g) ms

-- no gate is a member twice
abbrev pub gates_differ : List (ℕ × ℕ) → Bool
gates_differ [] = true
gates_differ (m ∷ ms) = not (has_gate ms m.0) && gates_differ ms
