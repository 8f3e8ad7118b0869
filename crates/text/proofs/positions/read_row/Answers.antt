use Rattle.model.specs.Bounds.{most_width}
use Rattle.std.proofs.Common.{◌≡◌, ◌<◌, false, length, sym, ap, ◌∙◌, arith, rules}
use Rattle.std.proofs.lemmas.List.{get_or-replicate}
use Rattle.std.proofs.lemmas.Bool.Decides.{nat_tests}
use Rattle.std.specs.Slice.Iter.{chunks_exact_rest}
use Rattle.text.specs.Ranges.{sound, covered}
use Rattle.text.proofs.Rows.{sound_peel, covered_peel, sound_end, covered_end, unsound, filled}
use Rattle.text.proofs.positions.read_row.Goals as goal

pub loop-range-init : goal.loop-range-init
loop-range-init c =
    let e : chunks_exact_rest c.into_iter-range-iterator.result ≡ c.args.ranges.now = cc in
    record { sound = cc; covered = λ q h. rw (get_or-replicate most_width q false false h) (ap (λ t. covered t q) e); full = search rules; two = search rules }

pub returns-then-first-last : goal.returns-then-first-last
returns-then-first-last c =
    let s = c.in-Some.ensures.steps in
    let i = c.loop-range.invariant in
    let p = sound_peel _ c.in-Some.range.now _ s.1.0 (s.1.1 ∙ i.two) c.args.width in
    let e : sound c.args.ranges.now c.args.width ≡ false = grind (arith, nat_tests) in
    unsound c.args.ranges.now c.args.width e

pub loop-range-preserved : goal.loop-range-preserved
loop-range-preserved c =
    let s = c.in-Some.ensures.steps in
    let i = c.loop-range.invariant in
    let two = s.1.1 ∙ i.two in
    let p = sound_peel _ c.in-Some.range.now _ s.1.0 two c.args.width in
    record {
      sound = grind (arith, nat_tests);
      covered = λ q h. let v = covered_peel _ c.in-Some.range.now _ s.1.0 two q in let k = i.covered q h in let m = c.mark.ensures q h in grind (arith, nat_tests);
      full = search rules;
      two = s.0 ∙ i.two;
    }

pub returns : goal.returns
returns c =
    let s = c.in-None.ensures.steps in
    let i = c.loop-range.invariant in
    let few : length (chunks_exact_rest c.loop-range.range-iterator) < 2 = omega (arith, s.1.0, i.two) in
    filled c.args.ranges.now c.args.width c.loop-range.row (sym i.sound ∙ sound_end _ c.args.width few) i.full
    (λ q h. let v = covered_end _ q few in let k = i.covered q h in grind (arith, nat_tests))
