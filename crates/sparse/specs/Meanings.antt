-- What a sparse store means.
use Rattle.std.specs.Prelude.{ℕ, min, cond, List, [], length, nat_lt, slice_index}
use Rattle.model.specs.Bounds.{most_cells}
use Rattle.store.specs.Meaning.{Meaning}
use Rattle.sparse.specs.Arrays.{gone_at, marks_of}
use Rattle.sparse.specs.declared.Sparse.{Sparse}

abbrev pub gone_of : ℕ → ℕ → List ℕ → List ℕ → ℕ → List ℕ
gone_of n w dom size h = cond (nat_lt h n) (gone_at dom w h (slice_index size h)) []

abbrev pub drawn : List ℕ → List ℕ → ℕ → ℕ → List ℕ → List (List ℕ) → ℕ → Meaning
drawn dom map n w size marks depth = record {
  cells = min (min (length dom) (length map)) most_cells;
  gates = n;
  width = w;
  gone = gone_of n w dom size;
  marks = marks_of n w marks depth;
}

abbrev pub meaning : Sparse → Meaning
meaning s = drawn s.cells.dom.now s.cells.map.now s.gates s.width s.size s.marks s.depth
