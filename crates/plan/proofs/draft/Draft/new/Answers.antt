use Rattle.std.proofs.Common.{refl}
use Rattle.plan.proofs.Holding.{first_held}
use Rattle.plan.proofs.draft.Draft.new.Goals as goal

pub returns : goal.returns
returns c = λ p e is. first_held _ p c.args.head e is refl refl refl refl refl refl
