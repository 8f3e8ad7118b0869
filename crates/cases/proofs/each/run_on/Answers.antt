use Rattle.cases.proofs.each.run_on.Goals as goal

pub returns-clause-ran : goal.returns-clause-ran
returns-clause-ran g c = (c.in_ok-read.field-0, c.in_ok-read.ensures.ok, rw c.in_ok-call_mut.was at c.call_mut.ensures)
