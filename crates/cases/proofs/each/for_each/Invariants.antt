use Rattle.std.proofs.Common.{map}
use Rattle.std.specs.List.{FoldsTo}
use Rattle.cases.specs.Runs.{RunsOn}
use Rattle.cases.proofs.each.for_each.Given as goal

abbrev pub invariant-loop-line : goal.invariant-loop-line
invariant-loop-line g l =
    goal.F-IsAlwaysCallable g l.run
    × FoldsTo (RunsOn (goal.F-step g)) l.fn.run (map (λ x. x.now) l.yielded) l.run
