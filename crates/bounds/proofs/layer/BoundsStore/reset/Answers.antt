use Rattle.std.proofs.Common.{refl}
use Rattle.store.proofs.Accepted.{reset_ok}
use Rattle.bounds.proofs.Keepers.{same_keeper}
use Rattle.bounds.proofs.Memories.{remembered_reset}
use Rattle.bounds.proofs.layer.BoundsStore.reset.Goals as goal

pub returns-in_err-reset-clause-whole : goal.returns-in_err-reset-clause-whole
returns-in_err-reset-clause-whole g c = λ _. same_keeper c.args.self.now _ _ (c.in_err-reset.ensures.whole refl)

pub invariant_of-self-2 : goal.invariant_of-self-2
invariant_of-self-2 g c =
    let m = g.S.Store.mean c.args.self.now.below in
    let m' = g.S.Store.mean c.reset.new.self in
    let k = reset_ok m m' c.args.n c.args.w c.in_ok-reset.ensures.meant in
    record { right = remembered_reset m' _ m.cells c.args.n c.args.w k.1 k.0.few_gates k.0.some_positions c.reset-2.ensures.ends }
