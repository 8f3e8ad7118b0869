use Rattle.std.proofs.Common.{true, false, Ok, refl, ap, ◌∙◌, rules}
use borrow.Author.Tests.{tests}
use Rattle.std.specs.Iterator.Adapters.{rev_source}
use Rattle.store.specs.Calls.{Contains}
use Rattle.sparse.specs.Meanings.{meaning}
use Rattle.store.proofs.Finds.{last_from_Range}
use Rattle.sparse.proofs.Finds.{greatest_found}
use Rattle.sparse.proofs.as_store.SparseStore.highest.Goals as goal

pub returns : goal.returns
returns c =
    let m = meaning c.args.self.now in
    let g = c.args.g in
    let from = c.rev.ensures.source in
    greatest_found m g (c.in_ok-check_gate.ensures.there refl) (rev_source c.rev.result) (ap (λ s. s.start) from ∙ c.positions.ensures.first) (ap (λ s. s.end) from ∙ c.positions.ensures.end) c.find.result
    (last_from_Range _ (λ q. Contains m g q (Ok true)) (λ q. Contains m g q (Ok false)) (λ x q k. search (rules, tests)) (λ x q k. search (rules, tests)) _ _ c.find.result c.find.ensures.ran)
