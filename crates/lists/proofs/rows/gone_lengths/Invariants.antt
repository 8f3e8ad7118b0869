use Rattle.std.proofs.Common.{◌≡◌, ℕ, ◌<◌, length, get_or}
use Rattle.lists.proofs.rows.gone_lengths.Given as goal

abbrev pub invariant-loop-g : goal.invariant-loop-g
invariant-loop-g g l = (h : ℕ) → h < l.g → get_or l.length-items h 0 ≡ length ((g.S.Store.mean l.store).gone h)
