use Rattle.std.proofs.Common.{eqb, arith}
use Rattle.bits.proofs.Keeping.{swept_kept}
use Rattle.bits.proofs.Bits.bind_at.Goals as goal

pub returns : goal.returns
returns c =
    let s = c.args.self.now in
    swept_kept s c.sweep.new.self c.args.g c.requires.gate c.remove.new.self (λ q. eqb q c.args.p)
    (λ q l. c.remove.ensures q (omega (arith, s.fit.1))) (c.sweep.ensures c.requires.gate)
