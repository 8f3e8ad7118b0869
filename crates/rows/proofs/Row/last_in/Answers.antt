use Rattle.std.proofs.Common.{◌≡◌, ◌+◌, ◌-◌, ◌*◌, ◌^◌, ◌<◌, get_or, Some, subst, arith, rules}
use lib.Count.{count_leading_zeros}
use Rattle.rows.specs.Rows.{LastIn}
use Rattle.rows.proofs.Words.{last_word, none_word}
use Rattle.rows.proofs.Row.last_in.Goals as goal

pub returns-then-word-eq0 : goal.returns-then-word-eq0
returns-then-word-eq0 c = λ q l u. none_word c.args.self.now.words c.args.i q c.if-word-eq0.true (omega arith)

pub returns-else-word-eq0 : goal.returns-else-word-eq0
returns-else-word-eq0 c =
    let r = c.args.self.now in
    let i = c.args.i in
    let fits : get_or r.words i 0 < 2 ^ 64 = search rules in
    let f = last_word r.words i c.if-word-eq0.false fits in
    let e : 64 * i + f.0 ≡ 64 * i + 64 - 1 - count_leading_zeros 64 (get_or r.words i 0) = omega (arith, f.1) in
    subst (λ p. LastIn r (64 * i) (64 * (i + 1)) (Some p)) e (omega arith, omega (arith, f.1), f.2, λ q l u. f.3 q l (omega arith))
