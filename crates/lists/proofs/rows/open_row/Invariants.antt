use Rattle.std.proofs.Common.{◌≡◌, ℕ, ◌<◌, false, length, get_or}
use Rattle.store.specs.Meaning.{domains}
use Rattle.model.specs.Bounds.{most_width}
use Rattle.lists.proofs.rows.open_row.Given as goal

abbrev pub invariant-loop-p : goal.invariant-loop-p
invariant-loop-p g l = (length l.row ≡ most_width) × ((q : ℕ) → q < l.p → get_or l.row q false ≡ domains (g.S.Store.mean l.store) l.g q)
