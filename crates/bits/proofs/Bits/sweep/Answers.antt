use Rattle.std.proofs.Common.{sym, ◌∙◌, subst}
use Rattle.bits.specs.Meanings.{meaning}
use Rattle.bits.proofs.Sweeping.{Swept, swept_turn, swept_all}
use Rattle.bits.proofs.Bits.sweep.Goals as goal

pub loop-q-preserved : goal.loop-q-preserved
loop-q-preserved c =
    let s = c.args.self.now in
    let i = c.loop-q.q-iterator in
    let n = c.in-Some.ensures.steps in (
      n.1.0 ∙ c.loop-q.invariant.0,
      subst (λ n. Swept s c.args.g c.args.out.now n (meaning c.strike.new.self)) (sym n.1.1)
          (swept_turn s c.args.g c.args.out.now i.row c.loop-q.invariant.0 i.from c.in-Some.q n.0 (meaning c.loop-q.self) c.loop-q.invariant.1
          c.strike.result (meaning c.strike.new.self) c.strike.ensures.meant),
    )

pub returns : goal.returns
returns c =
    let i = c.loop-q.q-iterator in
    swept_all c.args.self.now c.args.g c.args.out.now i.row c.loop-q.invariant.0 i.from i.within c.in-None.ensures.steps.0
    (meaning c.loop-q.self) c.loop-q.invariant.1
