use Rattle.std.proofs.Common.{refl}
use Rattle.store.proofs.Accepted.{strike_ok}
use Rattle.bounds.proofs.Keepers.{same_keeper}
use Rattle.bounds.proofs.Spans.{narrowed_strike}
use Rattle.bounds.proofs.Memories.{remembered_narrowed}
use Rattle.bounds.proofs.layer.BoundsStore.strike.Goals as goal

pub returns-in_err-hit-clause-whole : goal.returns-in_err-hit-clause-whole
returns-in_err-hit-clause-whole g c = λ _. same_keeper c.args.self.now _ _ (c.in_err-hit.ensures.whole refl)

pub invariant_of-self-2 : goal.invariant_of-self-2
invariant_of-self-2 g c =
    let s = c.args.self.now in
    let m = g.S.Store.mean s.below in
    let m' = g.S.Store.mean c.strike.new.self in
    let k = strike_ok m m' c.args.g c.args.p _ c.in_ok-hit.ensures.meant in
    let by = narrowed_strike m m' c.args.g c.args.p k.2 in
    record { right = remembered_narrowed m m' c.args.g s.memory _ (g.S.Store.sound s.below) by k.0 c.narrow.ensures.found c.narrow.ensures.others c.narrow.ensures.saved s.right }
