use Rattle.std.proofs.Common.{ap, refl, arith}
use Rattle.store.specs.Meaning.{Meaning}
use Rattle.store.proofs.Accepted.{bind_ok}
use Rattle.bounds.proofs.Keepers.{same_keeper}
use Rattle.bounds.proofs.Spans.{narrowed_kept, bound}
use Rattle.bounds.proofs.Memories.{remembered_written}
use Rattle.bounds.proofs.layer.BoundsStore.bind.Goals as goal

pub returns-in_err-left-clause-whole : goal.returns-in_err-left-clause-whole
returns-in_err-left-clause-whole g c = λ _. same_keeper c.args.self.now _ _ (c.in_err-left.ensures.whole refl)

pub invariant_of-self-2 : goal.invariant_of-self-2
invariant_of-self-2 g c =
    let s = c.args.self.now in
    let m = g.S.Store.mean s.below in
    let m' = g.S.Store.mean c.bind.new.self in
    let k = bind_ok m m' c.args.g c.args.p _ c.in_ok-left.ensures.meant in
    let by = narrowed_kept m m' c.args.g _ _ k.2 in
    let fits = bound m m' c.args.g c.args.p _ k.2 _ (omega (arith, ap (λ (n : Meaning). n.gates) by.1, k.0)) c.after_bind.ensures.one c.after_bind.ensures.none in
    record { right = remembered_written m m' c.args.g s.memory _ (g.S.Store.sound s.below) by _ fits c.write.ensures.written c.write.ensures.others c.write.ensures.saved s.right }
