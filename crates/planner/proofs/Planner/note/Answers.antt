use Rattle.std.proofs.Common.{refl, sym, subst}
use Rattle.planner.specs.Holdings.{HoldsGiven}
use Rattle.planner.proofs.Asking.{note_makes}
use Rattle.planner.proofs.Planner.note.Goals as goal

pub invariant_of-self : goal.invariant_of-self
invariant_of-self g c =
    let p = c.args.self.now in
    record { held = subst (HoldsGiven (g.S.Store.mean p.store) p.plan) (sym c.note.ensures.depth) p.held }

pub returns-clause-made : goal.returns-clause-made
returns-clause-made g c =
    let p = c.args.self.now in
    let noted = c.note.ensures in
    note_makes p c.note.new.self c.args.r c.gone_lengths-lengths.result noted.notes noted.saved (c.in_ok-check_reader.ensures.there refl) noted.long c.gone_lengths-lengths.ensures
