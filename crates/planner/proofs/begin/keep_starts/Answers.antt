use Rattle.std.proofs.Common.{ℕ, false, get_or, replicate, Some, subst, arith}
use Rattle.model.specs.Bounds.{most_width}
use Rattle.plan.specs.Views.{load_of}
use Rattle.lists.specs.Lists.{marked, Written}
use Rattle.lists.proofs.Marking.{written_none, ascending_short}
use Rattle.planner.proofs.Beginning.{starts_kept}
use Rattle.planner.proofs.begin.keep_starts.Goals as goal

pub returns-in-Some : goal.returns-in-Some
returns-in-Some g c = λ h.
    let m = g.S.Store.mean c.args.store.now in
    let few = (g.S.Store.sound c.args.store.now).few_positions in
    let row = c.start_row-row.result in
    starts_kept m (g.S.Store.mean c.keep.new.self) c.args.g row ((load_of c.args.plan.now).start c.args.g) (replicate most_width 0) c.write_marked.new.list
    c.in-Some.many c.keep.result (λ q l. c.start_row-row.ensures q (omega arith))
    (subst (λ (w : ℕ). Written (marked row w) (replicate most_width 0) (Some c.in-Some.many) c.write_marked.new.list) c.width.ensures c.in-Some.ensures)
    c.keep.ensures.meant h

pub returns-in_default : goal.returns-in_default
returns-in_default g c =
    let few = (g.S.Store.sound c.args.store.now).few_positions in
    let row = c.start_row-row.result in
    let short = ascending_short c.width.result (λ q. get_or row q false) in
    let none = written_none (marked row c.width.result) (replicate most_width 0) c.write_marked.new.list (subst (λ o. Written (marked row c.width.result) (replicate most_width 0) o c.write_marked.new.list) c.in_default.is c.write_marked.ensures) in
    absurd (omega (arith, none.0, c.width.ensures))
