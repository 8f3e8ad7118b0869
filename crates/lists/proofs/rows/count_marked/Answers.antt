use Rattle.std.proofs.Common.{rules, cond, take, sym, ◌∙◌, arith, tests}
use Rattle.std.proofs.lemmas.Iterator.{YieldsList-from_slice, YieldsList-from_map}
use Rattle.std.proofs.lemmas.Iterator.Consumers.{YieldsList-at, sum_by_from_yields_List, fits_by_from_yields_list}
use Rattle.std.proofs.lemmas.List.Sums.{length-filter, count_by-le-length}
use Rattle.std.proofs.lemmas.List.{length-take}
use Rattle.lists.proofs.rows.count_marked.Goals as goal

pub sum-requires-clause-fits : goal.sum-requires-clause-fits
sum-requires-clause-fits c =
    let xs = take c.args.w c.args.row.now in
    let n = count_by-le-length (λ b. b) xs in
    let l = length-take c.args.w c.args.row.now in
    fits_by_from_yields_list (λ b. cond b 1 0) xs _ _
    (YieldsList-from_map _ (λ b. cond b 1 0) (YieldsList-at c.map.ensures.source (YieldsList-from_slice xs (cc))) c.map.ensures.closure (λ x r q k. search (rules, tests))) (omega arith)

pub returns : goal.returns
returns c =
    let xs = take c.args.w c.args.row.now in
    sum_by_from_yields_List (λ b. cond b 1 0) xs _ _ c.sum.ensures.ran
    (YieldsList-from_map _ (λ b. cond b 1 0) (YieldsList-at c.map.ensures.source (YieldsList-from_slice xs (cc))) c.map.ensures.closure (λ x r q k. search (rules, tests)))
    ∙ sym (length-filter (λ b. b) xs)
