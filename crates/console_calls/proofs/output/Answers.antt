use Rattle.std.proofs.Common.{◌≡◌, Ok, string_bytes, refl, ap, ◌∙◌, arith}
use Rattle.plan.specs.Plans.{plan_text}
use Rattle.planner.specs.Loads.{load_answer}
use Rattle.planner.specs.States.{state}
use Rattle.console_calls.proofs.Printing.{found, printed}
use Rattle.console_calls.proofs.output.Goals as goal

pub add_calls-requires : goal.add_calls-requires
add_calls-requires g c = c.in-Ok.ensures.within

pub returns-in-Ok : goal.returns-in-Ok
returns-in-Ok g c =
    let cells = (g.S.Store.mean c.args.store).cells in
    let input = c.args.input.now in
    let answer : Ok c.in-Ok.read ≡ load_answer cells (plan_text input) =
    c.in-Ok.ensures.answer ∙ ap (λ st. load_answer (g.S.Store.mean st).cells (plan_text input)) c.new-planner.ensures.store in
    let x = found cells c.in-Ok.read (plan_text input) answer in
    let both = c.in-Ok.ensures.made x.0 x.1 refl in
    printed cells c.in-Ok.read input (string_bytes c.add_calls.new.out) (string_bytes c.in_ok-out-in-Ok.out) (omega (arith, c.if-input-gt-INPUT.false)) answer x.0 x.1
    (state c.load.new.self) both.2 (c.in_ok-out-in-Ok.ensures x.0.load both.0) (c.in_ok-add_calls-in-Ok.ensures x.0.load both.0)
