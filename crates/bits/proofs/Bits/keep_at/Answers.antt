use Rattle.std.proofs.Common.{◌≡◌, not, ◌&&◌, eqb, get_or, take, ap, ◌∙◌, arith}
use Rattle.std.proofs.lemmas.List.{take_all}
use Rattle.model.specs.Families.{has}
use Rattle.rows.specs.Rows.{lit}
use Rattle.bits.specs.Representation.{row_at}
use Rattle.bits.proofs.Keeping.{swept_kept, removed_more}
use Rattle.bits.proofs.Bits.keep_at.Goals as goal

pub loop-p-preserved : goal.loop-p-preserved
loop-p-preserved c = λ q l.
    let xs = c.args.list.now in
    let i = c.loop-p.p-index in
    c.remove.ensures q l ∙ ap (λ b. b && not (eqb q (get_or xs i 0))) (c.loop-p.invariant q l)
    ∙ removed_more (lit (row_at c.args.self.now.domains c.args.g) q) q i xs c.loop-p-test.true

pub returns : goal.returns
returns c =
    let s = c.args.self.now in
    let g = c.args.g in
    let xs = c.args.list.now in
    let all : take c.loop-p.p-index xs ≡ xs = take_all c.loop-p.p-index xs c.loop-p-test.false in
    swept_kept s c.sweep.new.self g c.requires.gate c.loop-p.out (has xs)
    (λ q l. c.loop-p.invariant q (omega (arith, s.fit.1)) ∙ ap (λ ys. lit (row_at s.domains g) q && not (has ys q)) all)
    (c.sweep.ensures c.requires.gate)
