use Rattle.std.proofs.Common.{◌≡◌, ◌-◌, ◌≤◌, length, Some, string_bytes}
use Rattle.model.specs.Plans.{Load}
use Rattle.text.specs.Readers.{text_of, place_of}
use Rattle.planner.specs.States.{loaded, state}
use Rattle.console_calls.specs.Sessions.{Adds, Goes}
use Rattle.console_calls.proofs.session.add_calls.Given as goal

abbrev pub invariant-loop-reader : goal.invariant-loop-reader
invariant-loop-reader g l =
    (text_of l.reader ≡ l.input) × (place_of l.reader ≤ length l.input)
    × ((load : Load) → loaded l.initial.planner ≡ Some load
    → (loaded l.planner ≡ Some load)
    × Adds (string_bytes l.initial.out) (string_bytes l.out)
    (Goes load.plan l.input (state l.initial.planner) l.read (state l.planner) (place_of l.reader)))

abbrev pub decreases-loop-reader : goal.decreases-loop-reader
decreases-loop-reader g l = length l.input - place_of l.reader
