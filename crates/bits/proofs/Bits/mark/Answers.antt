use Rattle.std.proofs.Common.{◌+◌, Ok, sym, ap, arith}
use Rattle.stack.specs.Stacks.{items}
use Rattle.bits.proofs.Marking.{save_kept, save_means}
use Rattle.bits.specs.Soundness.{length_marks}
use Rattle.bits.proofs.Bits.mark.Goals as goal

pub invariant_of-self : goal.invariant_of-self
invariant_of-self c = save_kept c.args.self.now c.requires.room c.args.len c.requires.len

pub returns : goal.returns
returns c =
    let s = c.args.self.now in
    let l = length_marks (items s.trail) s.marks s.depth in
    record {
      full = λ h. absurd (omega arith);
      done = λ _. (ap (λ x. Ok (x + 1)) (sym l), save_means s c.requires.room c.args.len c.requires.len);
    }
