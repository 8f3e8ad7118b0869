use Rattle.std.proofs.Common.{true, false, Ok, refl, rules}
use Rattle.std.proofs.lemmas.Iterator.{first_from_Range}
use borrow.Author.Tests.{tests}
use Rattle.store.specs.Calls.{Contains}
use Rattle.sparse.specs.Meanings.{meaning}
use Rattle.sparse.proofs.Finds.{least_found}
use Rattle.sparse.proofs.as_store.SparseStore.lowest.Goals as goal

pub returns : goal.returns
returns c =
    let m = meaning c.args.self.now in
    let g = c.args.g in
    least_found m g (c.in_ok-check_gate.ensures.there refl) c.positions.result c.positions.ensures.first c.positions.ensures.end c.find.result
    (first_from_Range _ _ _ c.find.result (λ q. Contains m g q (Ok true)) (λ q. Contains m g q (Ok false)) c.find.ensures.ran (λ x q k. search (rules, tests)) (λ x q k. search (rules, tests)))
