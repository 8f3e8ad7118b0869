use Rattle.std.proofs.Common.{◌≡◌, ℕ, ◌<◌, false, get_or}
use Rattle.plan.specs.Views.{load_of}
use Rattle.planner.proofs.begin.start_row.Given as goal

abbrev pub invariant-loop-p : goal.invariant-loop-p
invariant-loop-p l = (q : ℕ) → q < l.p → get_or l.mark-items q false ≡ (load_of l.plan).start l.g q
