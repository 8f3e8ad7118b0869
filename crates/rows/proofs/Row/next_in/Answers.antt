use Rattle.std.proofs.Common.{◌+◌, ◌*◌, ◌^◌, ◌<◌, get_or, arith, rules}
use Rattle.rows.proofs.Words.{first_from, none_from}
use Rattle.rows.proofs.Row.next_in.Goals as goal

pub returns-then-rest-eq0 : goal.returns-then-rest-eq0
returns-then-rest-eq0 c =
    let at = c.args.at in
    λ q l u. none_from c.args.self.now.words (64 * at.word + at.bit) at.word at.bit (omega arith) (omega arith) q c.if-rest-eq0.true l u

pub returns-else-rest-eq0 : goal.returns-else-rest-eq0
returns-else-rest-eq0 c =
    let ws = c.args.self.now.words in
    let at = c.args.at in
    let fits : get_or ws at.word 0 < 2 ^ 64 = search rules in
    let f = first_from ws (64 * at.word + at.bit) at.word at.bit (omega arith) (omega arith) c.if-rest-eq0.false fits in
    (omega arith, omega (arith, f.0), f.1, f.2)
