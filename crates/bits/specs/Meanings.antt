-- What a bit store means.
use Rattle.std.specs.Prelude.{ℕ, min, List}
use Rattle.model.specs.Bounds.{most_cells}
use Rattle.stack.specs.Stacks.{items, room}
use Rattle.store.specs.Meaning.{Meaning}
use Rattle.bits.specs.Representation.{gone_in, marks_of}
use Rattle.bits.specs.declared.entry.Record.{Record}
use Rattle.bits.specs.declared.Bits.{Bits}

abbrev pub drawn : ℕ → List Record → ℕ → ℕ → List ℕ → ℕ → Meaning
drawn room xs n w marks depth = record {
  cells = min room most_cells;
  gates = n;
  width = w;
  gone = λ h. gone_in h xs;
  marks = marks_of xs marks depth;
}

abbrev pub meaning : Bits → Meaning
meaning s = drawn (room s.trail) (items s.trail) s.gates s.width s.marks s.depth
