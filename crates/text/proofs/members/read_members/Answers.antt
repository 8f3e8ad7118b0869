use Rattle.std.proofs.Common.{◌≡◌, ◌+◌, ◌<◌, true, map, length, get_or, take, sym, ap, ◌∙◌, arith, length-append, rules}
use Rattle.model.specs.Members.{member_of, gates_differ}
use Rattle.std.specs.Iterator.Adapters.{enumerate_count, enumerate_source}
use Rattle.std.specs.Slice.Iter.{chunks_exact_rest}
use Rattle.text.specs.Payloads.{gates_below}
use Rattle.text.proofs.Memberships.{next_pair, length-members_in, differ_push, differ_twice, below_push, below_high, too_many, too_few, too_high, twice, held_push, one_more}
use Rattle.text.proofs.members.read_members.Goals as goal
use Rattle.text.proofs.members.read_members.Goals.{then-count-lt1-via-then-count-lt1, then-count-lt1-via-else-count-lt1+then-count-gt-MEMBERS, then-from-gates-via-then-from-gates, then-from-gates-via-else-from-gates+then-is_member}

pub returns-then-count-lt1 : goal.returns-then-count-lt1
returns-then-count-lt1 c =
    let n = length-members_in c.args.pairs.now in
    elim c.then-count-lt1.branch [
      | then-count-lt1-via-then-count-lt1 w ↦ too_few c.args.pairs.now c.args.gates (omega (arith, w.if-count-lt1.true))
      | then-count-lt1-via-else-count-lt1+then-count-gt-MEMBERS w ↦ too_many c.args.pairs.now c.args.gates (omega (arith, w.if-count-gt-MEMBERS.true))
    ]

pub returns-then-from-gates : goal.returns-then-from-gates
returns-then-from-gates c =
    let s = c.in-Some.ensures.steps in
    let i = c.loop-i.invariant in
    let held = map member_of (take c.in-Some.i c.loop-i.list) in
    let e = sym (next_pair c.loop-i.list _ c.in-Some.i _ c.in-Some.pair.now _ c.args.pairs.now s.1 s.0.1.0 (s.0.1.1 ∙ i.two) i.all) in
    elim c.then-from-gates.branch [
      | then-from-gates-via-then-from-gates w ↦
          too_high c.args.pairs.now c.args.gates
          (ap (gates_below c.args.gates) e ∙ below_high c.args.gates held _ _ (omega (arith, c.from.ensures, w.if-from-gates.true)))
      | then-from-gates-via-else-from-gates+then-is_member w ↦
          twice c.args.pairs.now c.args.gates
          (ap gates_differ e ∙ differ_twice held _ _ (sym w.if-is_member.ensures))
    ]

pub loop-i-preserved : goal.loop-i-preserved
loop-i-preserved c =
    let s = c.in-Some.ensures.steps in
    let i = c.loop-i.invariant in
    let held = map member_of (take c.in-Some.i c.loop-i.list) in
    let two = s.0.1.1 ∙ i.two in
    let e = next_pair c.loop-i.list _ c.in-Some.i _ c.in-Some.pair.now _ c.args.pairs.now s.1 s.0.1.0 two i.all in
    let l = ap length s.0.1.0 in
    let n = length-append c.in-Some.pair.now (chunks_exact_rest (enumerate_source c.next.new.self)) in
    let counted = i.counted in
    let room : c.in-Some.i < length c.loop-i.list = omega arith in
    let next : enumerate_count c.next.new.self ≡ c.in-Some.i + 1 = omega arith in
    let below : gates_below c.args.gates held ≡ true = rw s.1 i.below in
    let differ : gates_differ held ≡ true = rw s.1 i.differ in
    let push = held_push c.loop-i.list c.in-Some.i (record { gate = get_or c.in-Some.pair.now 0 0; weight = get_or c.in-Some.pair.now 1 0 }) room in
    record {
      all = rw next (one_more c.loop-i.list c.in-Some.i _ _ _ room e);
      below = rw (next, push) (below_push c.args.gates held _ below (omega arith));
      differ = rw (next, push) (differ_push held _ differ (sym c.if-is_member.ensures));
      counted = omega arith;
      two = s.0.0 ∙ i.two;
      room = search rules;
    }
