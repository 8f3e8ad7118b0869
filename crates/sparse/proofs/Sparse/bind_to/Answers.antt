use Rattle.std.proofs.Common.{refl, arith}
use Rattle.sparse.proofs.Calls.{position_room, swapped, moved_fields, bind_kept, clear_kept}
use Rattle.sparse.proofs.Sparse.bind_to.Goals as goal

pub returns-then-at-self : goal.returns-then-at-self
returns-then-at-self c = record {
  gate = λ h. absurd (omega arith);
  position = λ _ h. absurd (omega arith);
  done = λ hg _. clear_kept c.args.self.now c.args.g c.args.p hg (omega (arith, c.place-at.ensures));
}

pub to_front-requires-clause-position : goal.to_front-requires-clause-position
to_front-requires-clause-position c =
    let s = c.args.self.now in
    position_room s c.args.g c.place-at.result c.base-base.result c.requires.gate (omega (arith, s.sizes.1 c.args.g c.requires.gate)) c.base-base.ensures

pub to_front-requires-clause-at_first : goal.to_front-requires-clause-at_first
to_front-requires-clause-at_first c = position_room c.args.self.now c.args.g 0 c.base-base.result c.requires.gate (omega arith) c.base-base.ensures

pub invariant_of-self-2 : goal.invariant_of-self-2
invariant_of-self-2 c =
    let s = c.args.self.now in
    let g = c.args.g in
    let hg = c.requires.gate in
    let dom' = c.to_front.new.self.dom.now in
    let map' = c.to_front.new.self.map.now in
    let x = swapped s g c.args.p 0 _ _ hg c.requires.position c.base-base.ensures c.place-at.ensures c.if-at-self.false (omega arith) dom' map' c.to_front.ensures.dom c.to_front.ensures.map in
    moved_fields s g hg dom' map' x 1 (omega arith)

pub returns : goal.returns
returns c = record {
  gate = λ h. absurd (omega arith);
  position = λ _ h. absurd (omega arith);
  done = λ hg hp. bind_kept c.args.self.now c.args.g c.args.p 0 _ _ hg hp c.base-base.ensures c.place-at.ensures c.if-at-self.false (omega arith)
      c.to_front.new.self.dom.now c.to_front.new.self.map.now c.to_front.ensures.dom c.to_front.ensures.map refl;
}
