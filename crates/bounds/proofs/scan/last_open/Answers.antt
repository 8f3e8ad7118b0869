use Rattle.std.proofs.Common.{◌≡◌, ℕ, ◌<◌, ◌≤◌, true, false, Option, None, Some, MatchOption, rules, ap, ◌∙◌, arith}
use borrow.Author.Tests.{tests}
use Rattle.std.specs.Iterator.Adapters.{rev_source}
use Rattle.std.specs.Range.{range_inclusive_start, range_inclusive_end, range_inclusive_exhausted}
use Rattle.std.specs.declared.ops.RangeInclusive.{RangeInclusive}
use Rattle.store.specs.Meaning.{Meaning, domains}
use Rattle.store.proofs.Finds.{last_from_RangeInclusive}
use Rattle.bounds.specs.Ends.{LastOpen}
use Rattle.bounds.proofs.scan.last_open.Goals as goal

told : (m : Meaning) (g from to : ℕ) (s : RangeInclusive ℕ) → range_inclusive_start s ≡ from → range_inclusive_end s ≡ to → (r : Option ℕ)
    → MatchOption r ((k : ℕ) → range_inclusive_start s ≤ k → k ≤ range_inclusive_end s → domains m g k ≡ false)
    (λ i. (range_inclusive_start s ≤ i) × (i ≤ range_inclusive_end s) × (domains m g i ≡ true) × ((k : ℕ) → i < k → k ≤ range_inclusive_end s → domains m g k ≡ false))
    → LastOpen m g from to r
told m g from to s a b None h = λ q l v. h q (omega arith) (omega arith)
told m g from to s a b (Some i) h = (omega (arith, h.0), omega (arith, h.1), h.2, λ q l v. h.3 q l (omega arith))

pub returns : goal.returns
returns g c =
    let m = g.S.Store.mean c.args.store.now in
    let of = c.rev.ensures.source in
    told m c.args.g c.args.from c.args.to (rev_source c.rev.result) (ap range_inclusive_start of ∙ c.new.ensures.start) (ap range_inclusive_end of ∙ c.new.ensures.end) c.find.result
    (last_from_RangeInclusive _ (λ q. domains m c.args.g q ≡ true) (λ q. domains m c.args.g q ≡ false) (λ x q k. search (rules, tests)) (λ x q k. search (rules, tests)) _ _ c.find.result
    (ap range_inclusive_exhausted of ∙ c.new.ensures.exhausted) c.find.ensures.ran)
