use Rattle.std.proofs.Common.{◌≡◌, ℕ, ◌-◌, ◌<◌, true, false, length, get_or, take, drop, set, refl, ap, ◌∙◌, le_refl, arith, length-set}
use Rattle.model.specs.Families.{has}
use Rattle.model.specs.Bounds.{most_width}
use Rattle.store.proofs.Members.{all_below_at}
use Rattle.lists.proofs.Marking.{all_false, mark_more}
use Rattle.lists.proofs.rows.gone_between.Goals as goal

pub loop-k-init : goal.loop-k-init
loop-k-init g c =
    let xs = drop c.args.from ((g.S.Store.mean c.args.store.now).gone c.args.g) in (
      refl,
      le_refl c.args.from,
      λ p h. all_false most_width p ∙ ap (λ (n : ℕ). has (take n xs) p) (let z : 0 ≡ c.args.from - c.args.from = omega arith in z),
    )

pub loop-k-preserved : goal.loop-k-preserved
loop-k-preserved g c =
    let xs = (g.S.Store.mean c.args.store.now).gone c.args.g in
    let m = g.S.Store.mean c.args.store.now in
    let s = g.S.Store.sound c.args.store.now in
    let l = c.requires.end in
    let inside : c.loop-k.k < length xs = omega arith in
    let b = all_below_at m.width xs (s.below c.args.g) c.loop-k.k inside in (
      length-set c.loop-k.row c.from.result true ∙ c.loop-k.invariant.0,
      omega arith,
      λ p h.
          ap (λ (v : ℕ). get_or (set c.loop-k.row v true) p false) (c.from.ensures ∙ c.gone_at-p.ensures)
          ∙ mark_more c.loop-k.row xs c.args.from c.loop-k.k c.loop-k.invariant.0 c.loop-k.invariant.1 inside (omega (arith, s.few_positions)) c.loop-k.invariant.2 p h,
    )
