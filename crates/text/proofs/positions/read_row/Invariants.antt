use Rattle.model.specs.Bounds.{most_width}
use Rattle.std.proofs.Common.{◌≡◌, ℕ, ◌<◌, false, ◌||◌, length, get_or}
use Rattle.std.specs.Slice.Iter.{chunks_exact_rest, chunks_exact_size}
use Rattle.text.specs.Ranges.{covered, sound}
use Rattle.text.proofs.positions.read_row.Given as goal

abbrev pub invariant-loop-range : goal.invariant-loop-range
invariant-loop-range l =
    let rest = chunks_exact_rest l.range-iterator in
    record {
      sound : sound rest l.width ≡ sound l.ranges l.width;
      covered : (q : ℕ) → q < most_width → (get_or l.row q false || covered rest q) ≡ covered l.ranges q;
      full : length l.row ≡ most_width;
      two : chunks_exact_size l.range-iterator ≡ 2;
    }
