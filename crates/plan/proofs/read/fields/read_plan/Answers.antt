use Rattle.std.proofs.Common.{Result, sym, subst}
use Rattle.text.specs.declared.fault.Fault.{Fault}
use Rattle.plan.specs.Plans.{Reading}
use Rattle.plan.specs.Meanings.{MeansOnly}
use Rattle.plan.proofs.Meaning.{means_only}
use Rattle.plan.proofs.Soundness.{sound}
use Rattle.plan.proofs.read.fields.read_plan.Goals as goal

pub returns : goal.returns
returns c =
    record {
      value = c.read_fields.ensures;
      meaning = subst (λ (r : Result Reading Fault). MeansOnly c.args.text.now r) (sym c.read_fields.ensures) (means_only c.args.text.now);
      sound = sound c.args.text.now c.read_fields.result c.read_fields.ensures;
    }
