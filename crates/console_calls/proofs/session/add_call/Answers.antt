use Rattle.std.proofs.Common.{refl, take}
use Rattle.std.proofs.lemmas.Result.{on_ok_weaker}
use Rattle.model.specs.Answers.{numbers}
use Rattle.planner.specs.States.{state}
use Rattle.console_calls.specs.Calls.{word_of, call_of}
use Rattle.console_calls.specs.Lines.{told_line, denied_line}
use Rattle.console_calls.proofs.Sessions.{told_made, denied_made}
use Rattle.console_calls.proofs.session.add_call.Goals as goal

pub returns-in-Ok : goal.returns-in-Ok
returns-in-Ok g c = on_ok_weaker c.add_told.result (λ added load h.
    let made = c.in-Ok.ensures.made load h in
    let word = word_of c.args.kind in (
      made.0,
      (
        told_line word (take c.in-Ok.many c.make.new.list),
        added,
        told_made load.plan (state c.args.planner.now) (state c.make.new.planner) (call_of c.args.kind c.args.payload.now) word c.in-Ok.many c.make.new.list _ made.1 refl,
      ),
    )) c.add_told.ensures

pub returns-in-Err : goal.returns-in-Err
returns-in-Err g c = on_ok_weaker c.add_denied.result (λ added load h.
    let made = c.in-Err.ensures.made load h in
    let word = word_of c.args.kind in (
      made.0,
      (
        denied_line word c.in-Err.refusal,
        added,
        denied_made load.plan (state c.args.planner.now) (state c.make.new.planner) (call_of c.args.kind c.args.payload.now) word (λ n. numbers (take n c.make.new.list)) c.in-Err.refusal _ made.1 refl,
      ),
    )) c.add_denied.ensures
