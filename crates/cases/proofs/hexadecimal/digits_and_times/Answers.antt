use Rattle.std.proofs.Common.{rules}
use Rattle.cases.proofs.Numbers.{number_or_zero-parsed}
use Rattle.cases.proofs.hexadecimal.digits_and_times.Goals as goal

pub returns-in-Some-clause-times : goal.returns-in-Some-clause-times
returns-in-Some-clause-times c =
    search (rules, number_or_zero-parsed c.in-Some.times.now c.parse.result c.parse.ensures.value.0)
