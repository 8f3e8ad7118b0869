use Rattle.std.proofs.Common.{refl}
use Rattle.bounds.proofs.Keepers.{same_keeper}
use Rattle.bounds.proofs.layer.BoundsStore.restore.Goals as goal

pub returns-in_err-many-clause-whole : goal.returns-in_err-many-clause-whole
returns-in_err-many-clause-whole g c = λ _. same_keeper c.args.self.now _ _ (c.in_err-many.ensures.whole refl)
