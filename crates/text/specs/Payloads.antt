-- What the payloads of a plan's fields say. Each says nothing where a number is out of range, or where its numbers do not go together.
use Rattle.std.specs.Prelude.{ℕ, ◌+◌, ◌-◌, ◌*◌, Bool, cond, not, ◌&&◌, List, [], ◌∷◌, length, drop, ℤ, pos, negsuc, Some, None, Option, ◌==◌, int_le, nat_le, nat_lt, slice_index}
use Rattle.std.specs.Int.{cast_signed, w16}
use Rattle.std.specs.List.{list_all}
use Rattle.std.specs.Option.{option_map}
use Rattle.model.specs.Bounds.{most_gates, most_width, most_members, most_shift}
use Rattle.model.specs.Members.{gates_differ}
use Rattle.model.specs.Rules.{Rule, offset, near, not_above, total}
use Rattle.model.specs.declared.rule.pair.Pair.{Pair}
use Rattle.text.specs.declared.head.Head.{Head}
use Rattle.text.specs.declared.kind.RuleKind.{RuleKind}
use Rattle.text.specs.declared.kind.RuleKind.TheVariants.{Offset, Near, NotAbove, Total}
use Rattle.text.specs.Tests.{when, within}
use Rattle.text.specs.Fields.{two_bytes}

-- n gates and w positions: one of each at least, and no more than the bounds
abbrev pub head_of : List ℕ → Option Head
head_of bytes =
    when
    (length bytes == 3 && (within 1 most_gates (slice_index bytes 0) && within 1 most_width (two_bytes (slice_index bytes 1) (slice_index bytes 2))))
    (record { gates = slice_index bytes 0; width = two_bytes (slice_index bytes 1) (slice_index bytes 2) })

-- two different gates of a plan of n gates
abbrev pub two_gates : ℕ → ℕ → ℕ → Bool
two_gates n x y = nat_lt x n && (nat_lt y n && not (x == y))

abbrev pub gates_of : Pair → ℕ × ℕ
gates_of p = (p.x, p.y)

abbrev pub pair_of : ℕ → ℕ → ℕ → Option (ℕ × ℕ)
pair_of n x y = when (two_gates n x y) (x, y)

-- a number of two bytes in two's complement
abbrev pub signed : ℕ → ℕ → ℤ
signed high low = cast_signed w16 (two_bytes high low)

-- c is no further from 0 than the bound
abbrev pub small : ℤ → Bool
small c = int_le (negsuc (most_shift - 1)) c && int_le c (pos most_shift)

abbrev pub shift_of : ℕ → ℕ → Option ℤ
shift_of high low = when (small (signed high low)) (signed high low)

-- x, y and c
abbrev pub link_in : List ℕ → ℕ → Option (ℕ × ℕ × ℤ)
link_in bytes n =
    when
    (length bytes == 4 && (two_gates n (slice_index bytes 0) (slice_index bytes 1) && small (signed (slice_index bytes 2) (slice_index bytes 3))))
    (slice_index bytes 0, slice_index bytes 1, signed (slice_index bytes 2) (slice_index bytes 3))

abbrev pub link_of : Pair × ℤ → ℕ × ℕ × ℤ
link_of l = (l.0.x, l.0.y, l.1)

-- x, y and d
abbrev pub near_in : List ℕ → ℕ → Option Rule
near_in bytes n =
    when
    (length bytes == 3 && two_gates n (slice_index bytes 0) (slice_index bytes 1))
    (near (slice_index bytes 0) (slice_index bytes 1) (slice_index bytes 2))

-- a gate and a weight in each two bytes
abbrev pub members_in : List ℕ → List (ℕ × ℕ)
members_in [] = []
members_in (a ∷ []) = []
members_in (a ∷ (b ∷ rest)) = (a, b) ∷ members_in rest

-- each member's gate is below n
abbrev pub gates_below : ℕ → List (ℕ × ℕ) → Bool
gates_below n ms = list_all (λ m. nat_lt m.0 n) ms

-- one member at least, each of a gate below n, and none twice
abbrev pub members_of : List ℕ → ℕ → Option (List (ℕ × ℕ))
members_of bytes n =
    when
    (within 1 most_members (length (members_in bytes)) && (gates_below n (members_in bytes) && gates_differ (members_in bytes)))
    (members_in bytes)

-- a number of four bytes, the high one first
abbrev pub quad_at : List ℕ → ℕ → ℕ
quad_at bytes i = slice_index bytes i * 16777216 + slice_index bytes (i + 1) * 65536 + slice_index bytes (i + 2) * 256 + slice_index bytes (i + 3)

abbrev pub with_members : ℕ → ℕ → Option (List (ℕ × ℕ)) → Option Rule
with_members low high (Some ms) = Some (total low high ms)
with_members low high None = None

-- low, high, which is not below it, and members
abbrev pub total_in : List ℕ → ℕ → Option Rule
total_in bytes n =
    cond (nat_le 8 (length bytes) && nat_le (quad_at bytes 0) (quad_at bytes 4))
    (with_members (quad_at bytes 0) (quad_at bytes 4) (members_of (drop 8 bytes) n))
    None

-- the rule that a payload has in a plan of n gates
abbrev pub rule_in : RuleKind → List ℕ → ℕ → Option Rule
rule_in Offset bytes n = option_map (λ l. offset l.0 l.1 l.2) (link_in bytes n)
rule_in Near bytes n = near_in bytes n
rule_in NotAbove bytes n = option_map (λ l. not_above l.0 l.1 l.2) (link_in bytes n)
rule_in Total bytes n = total_in bytes n
