use Rattle.std.proofs.Common.{◌≡◌, ℕ, ◌<◌, Bool, false, List, length, get_or, drop, Some, Err, sym, refl, ap, ◌∙◌, subst, arith, rules}
use Rattle.model.specs.Bounds.{most_width}
use Rattle.model.specs.Families.{has}
use Rattle.model.specs.Plans.{Plan, Load}
use Rattle.model.specs.Calls.{changes}
use Rattle.model.specs.Ledgers.{ascending}
use Rattle.model.specs.Planners as model
use Rattle.store.specs.declared.Store.{Ghosts}
use Rattle.model.proofs.Meaning.{ascending_agree}
use Rattle.planner.specs.declared.Planner.{Planner as Held}
use Rattle.book.specs.Notes.{notes_in}
use Rattle.planner.specs.States.{loaded, state}
use Rattle.lists.specs.Lists.{Marks, marked, Written}
use Rattle.planner.proofs.Holding.{same_plan}
use Rattle.planner.proofs.Asking.{asked, asked_refused, gate_refused, changes_none, changes_short, changes_passed}
use Rattle.planner.proofs.Planner.changes.Goals as goal

-- what the row marks is what has gone since the note, by the plan that the planner was given
gone : {S : Type 0} {g : Ghosts S} (p : Held S g) (load : Load) → loaded p ≡ Some load → (r k from : ℕ) → from ≡ notes_in p.book.notes.rows r k → (row : List Bool) (w : ℕ)
    → w ≡ (g.mean p.store).width → Marks row most_width (has (drop from ((g.mean p.store).gone k))) → marked row w ≡ model.changed load.plan (state p) r k
gone {g = g} p load e r k from at row w width is =
    let m = g.mean p.store in
    let few = (g.sound p.store).few_positions in
    ap (marked row) width
    ∙ ascending_agree m.width (λ q. get_or row q false) (has (drop from (m.gone k))) (λ q l. is q (omega arith))
    ∙ ap (λ (n : ℕ). ascending m.width (has (drop n (m.gone k)))) at
    ∙ ap (λ (plan : Plan). model.changed plan (state p) r k) (same_plan m load p.book.depth (p.held load e))

pub returns-in_err-check_gate-clause-asked : goal.returns-in_err-check_gate-clause-asked
returns-in_err-check_gate-clause-asked g c = λ load e.
    let p = c.args.self.now in
    let refused = gate_refused (g.S.Store.mean p.store) c.args.g c.in_err-check_gate.field-0.0 c.in_err-check_gate.ensures in
    let x = c.in_err-check_gate.field-0.0 in
    let why = refused.1 in
    let is : c.from_residual-in_err-check_gate.result ≡ Err x = search rules in
    let h = (p.held load e).gates in
    asked_refused load.plan (state p) (changes c.args.r c.args.g (length c.args.list.now)) (model.changed load.plan (state p) c.args.r c.args.g) c.args.list.now x c.from_residual-in_err-check_gate.result is
    (changes_none load.plan (state p) c.args.r c.args.g (length c.args.list.now) (c.in_ok-check_reader.ensures.there refl) (omega (arith, refused.0, h)) ∙ ap (λ k. Some k) (sym why))

pub returns-clause-asked : goal.returns-clause-asked
returns-clause-asked g c = λ load e.
    let p = c.args.self.now in
    let m = g.S.Store.mean p.store in
    let r = c.args.r in
    let k = c.args.g in
    let list = c.args.list.now in
    let few : k < load.plan.gates = omega (arith, (c.in_ok-check_gate.ensures.there refl), (p.held load e).gates) in
    let reader = c.in_ok-check_reader.ensures.there refl in
    asked load.plan (state p) (changes r k (length list)) (model.changed load.plan (state p) r k) list c.write_marked.new.list c.write_marked.result c.ok_or.result
    (subst (λ xs. Written xs list c.write_marked.result c.write_marked.new.list)
    (gone p load e r k c.from-from.result (c.from-from.ensures ∙ c.noted.ensures) c.gone_since-row.result c.width.result c.width.ensures c.gone_since-row.ensures) c.write_marked.ensures)
    c.ok_or.ensures.value (changes_passed load.plan (state p) r k (length list) reader few) (changes_short load.plan (state p) r k (length list) reader few) (λ a e. e)
