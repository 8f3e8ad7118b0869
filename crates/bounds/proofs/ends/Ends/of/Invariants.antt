use Rattle.std.proofs.Common.{◌≡◌, ℕ, ◌<◌, None, length, get_or}
use Rattle.model.specs.Bounds.{most_gates}
use Rattle.bounds.specs.Ends.{SpanOf}
use Rattle.bounds.proofs.ends.Ends.of.Given as goal

abbrev pub invariant-loop-g : goal.invariant-loop-g
invariant-loop-g g l = (length l.spans ≡ most_gates) × ((h : ℕ) → h < l.g → SpanOf (g.S.Store.mean l.store) h (get_or l.spans h None))
