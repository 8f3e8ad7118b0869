use Rattle.std.proofs.Common.{◌≡◌, ◌+◌, ◌-◌, length, refl, arith}
use Rattle.store.proofs.Accepted.{save_ok}
use Rattle.bounds.proofs.Keepers.{same_keeper}
use Rattle.bounds.proofs.Memories.{remembered_saved}
use Rattle.bounds.proofs.layer.BoundsStore.save.Goals as goal

pub returns-in_err-many-clause-whole : goal.returns-in_err-many-clause-whole
returns-in_err-many-clause-whole g c = λ _. same_keeper c.args.self.now _ _ (c.in_err-many.ensures.whole refl)

pub invariant_of-self-2 : goal.invariant_of-self-2
invariant_of-self-2 g c =
    let s = c.args.self.now in
    let m = g.S.Store.mean s.below in
    let m' = g.S.Store.mean c.save.new.self in
    let k = save_ok m m' _ c.in_ok-many.ensures.meant in
    let many : c.in_ok-many.many ≡ length m.marks + 1 = cc k.1 in
    let from = c.from.ensures in
    let e = c.save-2.ensures in
    record { right = remembered_saved m m' s.memory _ (c.from.result - 1) k.2 (omega arith) e.ends e.newest e.others s.right }
