use Rattle.std.proofs.Common.{◌≡◌, ◌+◌, ◌*◌, true, ◌++◌, map, length, take}
use Rattle.std.specs.Iterator.Adapters.{enumerate_count, enumerate_source}
use Rattle.std.specs.Slice.Iter.{chunks_exact_rest, chunks_exact_size}
use Rattle.model.specs.Bounds.{most_members}
use Rattle.model.specs.Members.{member_of, gates_differ}
use Rattle.text.specs.Payloads.{members_in, gates_below}
use Rattle.text.proofs.members.read_members.Given as goal

abbrev pub invariant-loop-i : goal.invariant-loop-i
invariant-loop-i l =
    let n = enumerate_count l.i-iterator in
    let rest = chunks_exact_rest (enumerate_source l.i-iterator) in
    let held = map member_of (take n l.list) in
    record {
      all : held ++ members_in rest ≡ members_in l.pairs;
      below : gates_below l.gates held ≡ true;
      differ : gates_differ held ≡ true;
      counted : 2 * n + length rest ≡ length l.pairs;
      two : chunks_exact_size (enumerate_source l.i-iterator) ≡ 2;
      room : length l.list ≡ most_members;
    }
