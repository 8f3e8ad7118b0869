use Rattle.model.proofs.Settling as law
use Rattle.model.proofs.settling_stands.Goals as goal

pub returns : goal.returns
returns c = record { grows = law.grows; rests = law.rests; settings = law.keeps_settings }
