-- A keeper is the store below and what is remembered: that this is right has one proof only.
use Rattle.std.proofs.Common.{◌≡◌}
use mathlib.Core.HLevel.{is_prop→PathP}
use Rattle.bounds.specs.declared.Bounds.{Bounds}
use Rattle.bounds.specs.Ends.{Remembered}
use Rattle.bounds.specs.Unique.{Remembered-prop}

pub same_keeper : {S : Type 0} {g : _} (b : Bounds S g) (below : S) (right : Remembered (g.mean below) b.memory)
    → below ≡ b.below → record { below = below; memory = b.memory; right = right } ≡ b
same_keeper {g = g} b below right same = λ i. record {
  below = same i;
  memory = b.memory;
  right = is_prop→PathP (λ j. Remembered (g.mean (same j)) b.memory) (λ j. Remembered-prop (g.mean (same j)) b.memory) right b.right i;
}
