use Rattle.std.proofs.Common.{get_or, subst, sym, arith}
use Rattle.std.proofs.lemmas.Bool.{both_ways}
use Rattle.model.specs.Families.{has}
use Rattle.model.specs.Planners.{all_below}
use Rattle.sparse.specs.Arrays.{from, Perm, Gathered}
use Rattle.sparse.specs.Soundness.{perm}
use Rattle.sparse.proofs.Calls.{row_dom, row_map, moved_fields, moved_kept}
use Rattle.sparse.proofs.Sparse.keep_listed.Goals as goal

pub gather-left-requires : goal.gather-left-requires
gather-left-requires c =
    let s = c.args.self.now in
    let g = c.args.g in
    let hg = c.requires.gate in
    let begins = c.base-base.ensures in
    record {
      perm = subst (λ x. Perm s.width (from s.cells.dom.now x) (from s.cells.map.now x)) (sym begins) (perm s g hg);
      dom_room = omega (arith, row_dom s g hg);
      map_room = omega (arith, row_map s g hg);
      some = s.sizes.1 g hg;
      within = c.requires.within;
    }

pub invariant_of-self : goal.invariant_of-self
invariant_of-self c =
    let s = c.args.self.now in
    let r = c.gather-left.result in
    let dom' = c.gather-left.new.self.dom.now in
    let map' = c.gather-left.new.self.map.now in
    let e = subst (λ x. Gathered x s.width (get_or s.size c.args.g 0) c.args.list.now r s.cells.dom.now s.cells.map.now dom' map') c.base-base.ensures c.gather-left.ensures in
    moved_fields s c.args.g c.requires.gate dom' map' e.moved r e.few

pub returns : goal.returns
returns c =
    let s = c.args.self.now in
    let xs = c.args.list.now in
    let r = c.gather-left.result in
    let dom' = c.gather-left.new.self.dom.now in
    let map' = c.gather-left.new.self.map.now in
    let e = subst (λ x. Gathered x s.width (get_or s.size c.args.g 0) xs r s.cells.dom.now s.cells.map.now dom' map') c.base-base.ensures c.gather-left.ensures in
    record {
      gate = λ h. absurd (omega arith);
      position = λ _ h. absurd (both_ways (all_below s.width xs) h c.requires.within);
      done = λ hg _. moved_kept s c.args.g hg dom' map' e.moved r e.few (has xs) e.stays e.only;
    }
