-- What a bit store means is sound.
use Rattle.std.specs.Prelude.{◌≡◌, ℕ, zero, suc, List, length, slice_index, refl}
use Rattle.std.proofs.Common.{ap, arith}
use Rattle.stack.specs.Stacks.{items}
use Rattle.store.specs.Meaning.{Sound, Marked}
use Rattle.bits.specs.Representation.{gone_in, marks_of}
use Rattle.bits.specs.Meanings.{meaning}
use Rattle.bits.specs.Trails.{gone_outside, gone_below, gone_once, front_short}
use Rattle.bits.specs.declared.entry.Record.{Record}
use Rattle.bits.specs.declared.Bits.{Bits}

pub length_marks : (xs : List Record) (marks : List ℕ) (d : ℕ) → length (marks_of xs marks d) ≡ d
length_marks xs marks zero = refl
length_marks xs marks (suc d) = ap suc (length_marks xs marks d)

newest_mark : (xs : List Record) (marks : List ℕ) (d : ℕ) → Marked (λ h. gone_in h xs) (marks_of xs marks d)
newest_mark xs marks zero = tt
newest_mark xs marks (suc d) = λ h. front_short h (slice_index marks d) xs

pub sound : (s : Bits) → Sound (meaning s)
sound s = record {
  few_gates = s.fit.0;
  few_positions = s.fit.1;
  few_marks = omega (arith, length_marks (items s.trail) s.marks s.depth, s.fit.3);
  once = gone_once (items s.trail) s.apart;
  below = gone_below (items s.trail) s.gates s.width s.listed;
  outside = gone_outside (items s.trail) s.gates s.width s.listed;
  marked = newest_mark (items s.trail) s.marks s.depth;
}
