use Rattle.std.proofs.Common.{◌≡◌, ℕ, ◌-◌, ◌<◌, ◌≤◌, false, length, get_or, take, drop}
use Rattle.model.specs.Families.{has}
use Rattle.model.specs.Bounds.{most_width}
use Rattle.lists.proofs.rows.gone_between.Given as goal

abbrev pub invariant-loop-k : goal.invariant-loop-k
invariant-loop-k g l =
    (length l.row ≡ most_width) × (l.from ≤ l.k)
    × ((p : ℕ) → p < most_width → get_or l.row p false ≡ has (take (l.k - l.from) (drop l.from ((g.S.Store.mean l.store).gone l.g))) p)
