use Rattle.std.proofs.Common.{◌≡◌, ℕ, ◌+◌, ◌<◌, ◌≤◌, Bool, true, false, List, ◌++◌, length, get_or, take, drop, set, sym, ap, ◌∙◌, ap₂, arith}
use Rattle.std.proofs.lemmas.List.{length_push, length-take, get_or-take}
use Rattle.lists.specs.Lists.{marked}
use Rattle.lists.proofs.Marking.{ascending_hit, ascending_miss, ascending_grows, set_front}
use Rattle.lists.proofs.rows.put_marked.Goals as goal
use Rattle.lists.proofs.rows.put_marked.Goals.{then-marked, else-marked}

-- a place among the first w is below w, and its mark is the row's
module _ (row : List Bool) (n w p : ℕ) (e : n ≡ w) (l : p < length (take n row)) where
  below : p < w
  below = omega (arith, length-take n row)

  its_mark : get_or row p false ≡ get_or (take n row) p false
  its_mark = let b = below in sym (get_or-take n row p false (omega arith))

-- a list with room for all marked places has one for the next
next_fits : (row : List Bool) (list : List ℕ) (p w k : ℕ) → get_or row p false ≡ true → p < w → k ≡ length (marked row p) → length (marked row w) ≤ length list → k < length list
next_fits row list p w k hit l a b =
    let d = ap length (ascending_hit p (λ q. get_or row q false) hit) in
    let e = length_push (marked row p) p in
    let f = ascending_grows (λ q. get_or row q false) (p + 1) w (omega arith) in
    omega arith

pub bounds-list-k : goal.bounds-list-k
bounds-list-k c =
    let row = c.args.row.now in
    let p = c.loop-p.p in
    let same = its_mark row c.from.result c.args.w p c.from.ensures c.loop-p-test.true in
    let l = below row c.from.result c.args.w p c.from.ensures c.loop-p-test.true in
    let here = next_fits row c.args.list.now p c.args.w c.loop-p.k (same ∙ c.if-marked.true) l c.loop-p.invariant.0 c.requires.room in
    omega arith

pub loop-p-preserved : goal.loop-p-preserved
loop-p-preserved c =
    let row = c.args.row.now in
    let list = c.args.list.now in
    let p = c.loop-p.p in
    let k = c.loop-p.k in
    let same = its_mark row c.from.result c.args.w p c.from.ensures c.loop-p-test.true in
    let l = below row c.from.result c.args.w p c.from.ensures c.loop-p-test.true in
    elim c.if-marked.branch [
      | then-marked w ↦
          let hit = ascending_hit p (λ q. get_or row q false) (same ∙ w.if-marked.true) in
          let a = ap length hit in
          let b = length_push (marked row p) p in
          let fits = next_fits row list p c.args.w k (same ∙ w.if-marked.true) l c.loop-p.invariant.0 c.requires.room in (
            omega arith,
            w.list-is ∙ ap (λ (ys : List ℕ). set ys k p) c.loop-p.invariant.1 ∙ set_front (marked row p) list k p c.loop-p.invariant.0 fits
                ∙ ap₂ {C = List ℕ} (λ (xs : List ℕ) (n : ℕ). xs ++ drop n list) (sym hit) (sym w.k-is),
          )
      | else-marked w ↦
          let miss = ascending_miss p (λ q. get_or row q false) (same ∙ w.if-marked.false) in (
            w.k-is ∙ c.loop-p.invariant.0 ∙ ap length (sym miss),
            w.list-is ∙ c.loop-p.invariant.1 ∙ ap₂ {C = List ℕ} (λ (xs : List ℕ) (n : ℕ). xs ++ drop n list) (sym miss) (sym w.k-is),
          )
    ]
