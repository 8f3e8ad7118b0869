use Rattle.std.proofs.Common.{length, get_or, take, Some, sym, ap, ◌∙◌, arith}
use Rattle.std.specs.List.{slice_get}
use Rattle.std.proofs.lemmas.List.{length_push, take_all}
use Rattle.std.proofs.lemmas.Option.{slice_get_past, slice_get-get_or}
use Rattle.bits.specs.Representation.{gone_in, bare}
use Rattle.bits.proofs.Walks.{gone_next, gone_skip, gone_found}
use Rattle.bits.proofs.Bits.gone_at.Goals as goal
use Rattle.bits.proofs.Bits.gone_at.Goals.{then-from-g+else-seen-k, else-from-g}

pub returns-then-seen-k : goal.returns-then-seen-k
returns-then-seen-k c =
    let xs = c.entries-r-items.result.now in
    let f = gone_found c.args.g xs c.loop-r.r-index c.args.k c.loop-r-test.true (sym c.from.ensures ∙ c.if-from-g.true) (sym c.if-seen-k.true ∙ c.loop-r.invariant.0) in
    ap Some (c.from-then-seen-k.ensures ∙ sym f.1) ∙ sym (slice_get-get_or (gone_in c.args.g xs) c.args.k 0 f.0)
    ∙ ap (λ l. slice_get (gone_in c.args.g l) c.args.k) c.entries-r-items.ensures

pub loop-r-preserved : goal.loop-r-preserved
loop-r-preserved c =
    let xs = c.entries-r-items.result.now in
    elim c.if-from-g.branch [
      | then-from-g+else-seen-k w ↦ (
          let n = gone_next c.args.g xs c.loop-r.r-index c.loop-r-test.true (sym c.from.ensures ∙ w.if-from-g.true) in (
            omega (arith, w.seen-is, c.loop-r.invariant.0, ap length n, length_push (gone_in c.args.g (take c.loop-r.r-index xs)) (get_or xs c.loop-r.r-index bare).position),
            omega (arith, w.seen-is, w.if-seen-k.false),
            omega (arith, w.seen-is),
          ))
      | else-from-g w ↦ (
          let n = gone_skip c.args.g xs c.loop-r.r-index c.loop-r-test.true (λ e. w.if-from-g.false (c.from.ensures ∙ e)) in
          (omega (arith, w.seen-is, c.loop-r.invariant.0, ap length n), omega (arith, w.seen-is), omega (arith, w.seen-is)))
    ]

pub returns : goal.returns
returns c =
    let xs = c.entries-r-items.result.now in
    let all = ap (gone_in c.args.g) (sym (take_all c.loop-r.r-index xs c.loop-r-test.false)) in
    sym (slice_get_past (gone_in c.args.g xs) c.args.k (omega (arith, c.loop-r.invariant.0, c.loop-r.invariant.1, ap length all)))
    ∙ ap (λ l. slice_get (gone_in c.args.g l) c.args.k) c.entries-r-items.ensures
