-- The fields of a plan: the tag of each, and the lengths that it allows.
use Rattle.std.specs.Prelude.{ℕ, ◌+◌, ◌*◌, ◌%◌, Bool, cond, ◌&&◌, Some, None, Ok, Err, Option, Result, ◌==◌}
use Rattle.model.specs.Bounds.{most_members, most_ranges}
use Rattle.model.specs.declared.refusal.Refusal.{Refusal}
use Rattle.model.specs.declared.refusal.Refusal.TheVariants.{UnknownTag, BadLength}
use Rattle.text.specs.declared.kind.PlanKind.{PlanKind}
use Rattle.text.specs.declared.kind.PlanKind.TheVariants.{Head, Positions, Rule, End}
use Rattle.text.specs.declared.kind.RuleKind.TheVariants.{Offset, Near, NotAbove, Total}
use Rattle.text.specs.Tests.{within}

-- the kind that a tag names
abbrev pub named : ℕ → Option PlanKind
named tag =
    cond (tag == 0x01) (Some Head)
    (cond (tag == 0x02) (Some Positions)
    (cond (tag == 0x03) (Some (Rule Offset))
    (cond (tag == 0x04) (Some (Rule Near))
    (cond (tag == 0x05) (Some (Rule NotAbove))
    (cond (tag == 0x06) (Some (Rule Total))
    (cond (tag == 0x07) (Some End) None))))))

-- Positions has a gate and a pair of bytes for each range, Total two numbers of four bytes and a pair for each member, one at least.
abbrev pub allows : PlanKind → ℕ → Bool
allows Head len = len == 3
allows Positions len = within 1 (1 + 2 * most_ranges) len && len % 2 == 1
allows (Rule Offset) len = len == 4
allows (Rule Near) len = len == 3
allows (Rule NotAbove) len = len == 4
allows (Rule Total) len = within 10 (8 + 2 * most_members) len && len % 2 == 0
allows End len = len == 0

-- the kind that a tag and a length make: an unknown tag is told before a length
abbrev pub plan_kind : ℕ → ℕ → Result PlanKind Refusal
plan_kind tag len = elim (named tag) [ Some k ↦ cond (allows k len) (Ok k) (Err BadLength) | None ↦ Err UnknownTag ]
