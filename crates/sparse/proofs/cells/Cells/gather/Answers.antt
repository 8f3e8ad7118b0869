use Rattle.std.proofs.Common.{◌≡◌, ℕ, ◌+◌, ◌&&◌, ltb, leb, get_or, take, sym, ap, ◌∙◌, subst, arith}
use Rattle.std.proofs.lemmas.Bool.{and_from, and_parts, both_ways, leb-true, le-leb, ltb-true, lt-ltb}
use Rattle.model.specs.Planners.{all_below}
use Rattle.store.proofs.Members.{true_is, all_below_at}
use Rattle.sparse.specs.Arrays.{from, dom_swapped, map_swapped, Gathered}
use Rattle.sparse.specs.declared.cells.Cells.{Cells}
use Rattle.sparse.proofs.Gathers.{gather_skip, gather_swap}
use Rattle.sparse.proofs.cells.Cells.gather.Goals as goal
use Rattle.sparse.proofs.cells.Cells.gather.Goals.{then-waits, else-waits}

pub loop-p-preserved : goal.loop-p-preserved
loop-p-preserved c =
    let xs = c.args.list.now in
    let i = c.loop-p.p-index in
    let d₀ = c.args.self.now.dom.now in
    let m₀ = c.args.self.now.map.now in
    let d = c.loop-p.self.dom.now in
    let m = c.loop-p.self.map.now in
    let inv = c.loop-p.invariant in
    let hi = c.loop-p-test.true in
    let hp = all_below_at c.args.w xs (true_is (all_below c.args.w xs) c.requires.within) in
    let G : Cells → ℕ → Type 0 = λ x r. Gathered c.args.base c.args.w c.args.count (take (i + 1) xs) r d₀ m₀ x.dom.now x.map.now in
    let front = c.loop-p.front in
    let at = from m c.args.base c.from.result in
    let is : at ≡ from m c.args.base (get_or xs i 0) = ap (from m c.args.base) c.from.ensures in
    let n = c.args.count in
    elim c.if-waits.branch [
      | then-waits w ↦
          let both = and_parts (leb front at) (ltb at n) (sym c.waits.ensures ∙ w.if-waits.true) in
          subst (λ r. G c.if-waits.self r) (sym w.front-is) (subst (λ x. G x (front + 1)) (sym w.self-is)
          (gather_swap c.args.base c.args.w n xs i front d₀ m₀ d m hi (hp i hi) inv c.requires.some
          (omega (arith, leb-true front at both.0)) (omega (arith, ltb-true at n both.1)) (omega (arith, inv.moved.dom_long, c.requires.dom_room)) (omega (arith, inv.moved.map_long, c.requires.map_room))
          w.swap.new.self.dom.now w.swap.new.self.map.now (w.swap.ensures.dom ∙ ap (λ x. dom_swapped d c.args.base x front) is) (w.swap.ensures.map ∙ ap (λ x. map_swapped d m c.args.base x front) is)))
      | else-waits w ↦
          subst (λ r. G c.if-waits.self r) (sym w.front-is) (subst (λ x. G x front) (sym w.self-is)
          (gather_skip c.args.base c.args.w n xs i front d₀ m₀ d m hi (hp i hi) inv
          (λ a b. both_ways (leb front at && ltb at n) (sym c.waits.ensures ∙ w.if-waits.false) (and_from (leb front at) (ltb at n) (le-leb front at (omega arith)) (lt-ltb at n (omega arith))))))
    ]
