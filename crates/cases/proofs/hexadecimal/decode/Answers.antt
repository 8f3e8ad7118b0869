use Rattle.std.proofs.Common.{rules, ◌∙◌, ap, sym, map, length, lit<}
use Rattle.std.proofs.lemmas.List.{map_push}
use Rattle.std.proofs.lemmas.Iterator.Consumers.{YieldsList-so_far, YieldsList-turn, YieldsList-end}
use Rattle.std.proofs.lemmas.Iterator.Splits.{YieldsList-from_str_split}
use Rattle.cases.specs.Hexadecimal.{parts_bytes}
use Rattle.cases.proofs.Parts.{parts_bytes-push, parts_bytes-stop}
use Rattle.cases.proofs.hexadecimal.decode.Goals as goal

pub loop-part-preserved : goal.loop-part-preserved
loop-part-preserved c =
    ap parts_bytes (map_push (λ x. x.now) c.loop-part.yielded c.in-Some.part)
    ∙ parts_bytes-push (map (λ x. x.now) c.loop-part.yielded) c.in-Some.part.now c.loop-part.bytes.items _ c.loop-part.invariant c.in_ok-add_part.ensures.ok

pub returns-in_err-add_part-clause-err : goal.returns-in_err-add_part-clause-err
returns-in_err-add_part-clause-err c =
    let parts = YieldsList-from_str_split {s = c.into_iter-part-iterator.result} 32 c.args.text.now (lit< tt) (search rules) (search rules) (search rules) in
    let turn = YieldsList-turn parts c.loop-part.yielded _ c.loop-part.yielded_by _ _ c.in-Some.part c.in-Some.is c.next.ensures.steps in
    let so_far = YieldsList-so_far parts c.loop-part.yielded _ c.loop-part.yielded_by in
    let known = ap parts_bytes (sym so_far) ∙ c.loop-part.invariant in
    search (rules, parts_bytes-stop _ (length c.loop-part.yielded) c.in-Some.part.now c.loop-part.bytes.items c.in_err-add_part.field-0.0 turn.0 turn.1 known)

pub returns-clause-ok : goal.returns-clause-ok
returns-clause-ok c =
    let parts = YieldsList-from_str_split {s = c.into_iter-part-iterator.result} 32 c.args.text.now (lit< tt) (search rules) (search rules) (search rules) in
    let end = YieldsList-end parts c.loop-part.yielded _ c.loop-part.yielded_by _ _ c.in-None.is c.next.ensures.steps in
    ap parts_bytes (sym end.0) ∙ c.loop-part.invariant
