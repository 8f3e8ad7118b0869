use Rattle.std.proofs.Common.{◌-◌, [], ◌∷◌, get_or, refl, ap, ◌∙◌, arith}
use Rattle.std.proofs.lemmas.Bool.{both_ways}
use Rattle.model.specs.Families.{has}
use Rattle.store.specs.Meaning.{appended}
use Rattle.sparse.specs.Arrays.{cell}
use Rattle.sparse.specs.Meanings.{meaning}
use Rattle.sparse.proofs.Spans.{span_one}
use Rattle.sparse.proofs.Calls.{shut_at, open_at, position_room, swapped, swap_at, moved_fields, moved_means}
use Rattle.sparse.proofs.Sparse.take_out.Goals as goal

pub returns-then-at-count : goal.returns-then-at-count
returns-then-at-count c =
    let s = c.args.self.now in
    let e = shut_at s c.args.g c.args.p c.requires.gate c.requires.position (omega (arith, c.place-at.ensures)) in
    record {
      gate = λ h. absurd (omega arith);
      position = λ _ h. absurd (omega arith);
      hit = λ _ _ h. absurd (both_ways (has ((meaning s).gone c.args.g) c.args.p) h e);
      miss = λ _ _ _. (refl, refl);
    }

pub swap-requires-clause-position_a : goal.swap-requires-clause-position_a
swap-requires-clause-position_a c =
    let s = c.args.self.now in
    position_room s c.args.g c.place-at.result c.base-base.result c.requires.gate (omega (arith, s.sizes.1 c.args.g c.requires.gate)) c.base-base.ensures

pub swap-requires-clause-position_b : goal.swap-requires-clause-position_b
swap-requires-clause-position_b c =
    let s = c.args.self.now in
    position_room s c.args.g (get_or s.size c.args.g 0 - 1) c.base-base.result c.requires.gate (omega (arith, s.sizes.1 c.args.g c.requires.gate)) c.base-base.ensures

pub invariant_of-self : goal.invariant_of-self
invariant_of-self c =
    let s = c.args.self.now in
    let g = c.args.g in
    let hg = c.requires.gate in
    let dom' = c.swap.new.self.dom.now in
    let map' = c.swap.new.self.map.now in
    let x = swapped s g c.args.p (get_or s.size g 0 - 1) _ _ hg c.requires.position c.base-base.ensures c.place-at.ensures c.if-at-count.false (omega arith)
    dom' map' c.swap.ensures.dom c.swap.ensures.map in
    moved_fields s g hg dom' map' x (get_or s.size g 0 - 1) (omega arith)

pub returns : goal.returns
returns c =
    let s = c.args.self.now in
    let g = c.args.g in
    let p = c.args.p in
    let hg = c.requires.gate in
    let hp = c.requires.position in
    let la = c.if-at-count.false in
    let n = get_or s.size g 0 in
    let dom' = c.swap.new.self.dom.now in
    let map' = c.swap.new.self.map.now in
    let x = swapped s g p (n - 1) _ _ hg hp c.base-base.ensures c.place-at.ensures la (omega arith) dom' map' c.swap.ensures.dom c.swap.ensures.map in
    let here = swap_at s g p (n - 1) _ _ hg hp c.base-base.ensures c.place-at.ensures la (omega arith) dom' map' c.swap.ensures.dom c.swap.ensures.map in
    let one = span_one (cell dom' s.width g) n (omega arith) ∙ ap (λ x. x ∷ []) here in
    record {
      gate = λ h. absurd (omega arith);
      position = λ _ h. absurd (omega arith);
      hit = λ _ _ _. (refl, moved_means s g hg dom' map' x (n - 1) (omega arith) ∙ ap (appended (meaning s) g) one);
      miss = λ _ _ h. absurd (both_ways (has ((meaning s).gone g) p) (open_at s g p hg hp (omega (arith, c.place-at.ensures))) h);
    }
