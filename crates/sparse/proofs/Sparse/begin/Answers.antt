use Rattle.std.proofs.Common.{◌*◌, ap}
use Rattle.sparse.proofs.Resets.{reset_fields, reset_means}
use Rattle.sparse.proofs.Sparse.begin.Goals as goal

pub invariant_of-self : goal.invariant_of-self
invariant_of-self c =
    let e = c.fill.ensures in
    reset_fields c.args.self.now c.args.n c.args.w c.requires c.fill.new.self.dom.now c.fill.new.self.map.now e.dom_long e.map_long
    _ (ap (λ k. c.args.n * k) c.from.ensures) e.dom e.map

pub returns : goal.returns
returns c =
    let e = c.fill.ensures in
    reset_means c.args.self.now c.args.n c.args.w c.requires c.fill.new.self.dom.now c.fill.new.self.map.now e.dom_long e.map_long
    _ (ap (λ k. c.args.n * k) c.from.ensures) e.dom e.map
