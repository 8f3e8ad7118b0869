use Rattle.std.proofs.Common.{◌≡◌, ℕ, ◌<◌, Bool, false, List, length, get_or, Some, Err, sym, refl, ap, ◌∙◌, subst, arith, rules}
use Rattle.model.specs.Plans.{Plan, Load}
use Rattle.model.specs.Calls.{show}
use Rattle.model.specs.Planners as model
use Rattle.store.specs.Meaning.{domains}
use Rattle.store.specs.declared.Store.{Ghosts}
use Rattle.model.proofs.Meaning.{ascending_agree}
use Rattle.planner.specs.declared.Planner.{Planner as Held}
use Rattle.planner.specs.States.{loaded, state}
use Rattle.lists.specs.Lists.{Marks, marked, Written}
use Rattle.planner.proofs.Holding.{same_plan}
use Rattle.planner.proofs.Asking.{asked, asked_refused, gate_refused, show_none, show_short, show_passed}
use Rattle.planner.proofs.Planner.show.Goals as goal

-- what the row marks is the domain, by the plan that the planner was given
shown : {S : Type 0} {g : Ghosts S} (p : Held S g) (load : Load) → loaded p ≡ Some load → (k : ℕ) (row : List Bool) (w : ℕ) → w ≡ (g.mean p.store).width
    → Marks row (g.mean p.store).width (domains (g.mean p.store) k) → marked row w ≡ model.domain load.plan (state p) k
shown {g = g} p load e k row w width is =
    let m = g.mean p.store in
    ap (marked row) width ∙ ascending_agree m.width (λ q. get_or row q false) (domains m k) is
    ∙ ap (λ (plan : Plan). model.domain plan (state p) k) (same_plan m load p.book.depth (p.held load e))

pub returns-in_err-check_gate-clause-asked : goal.returns-in_err-check_gate-clause-asked
returns-in_err-check_gate-clause-asked g c = λ load e.
    let p = c.args.self.now in
    let refused = gate_refused (g.S.Store.mean p.store) c.args.g c.in_err-check_gate.field-0.0 c.in_err-check_gate.ensures in
    let x = c.in_err-check_gate.field-0.0 in
    let why = refused.1 in
    let is : c.from_residual-in_err-check_gate.result ≡ Err x = search rules in
    let h = (p.held load e).gates in
    asked_refused load.plan (state p) (show c.args.g (length c.args.list.now)) (model.domain load.plan (state p) c.args.g) c.args.list.now x c.from_residual-in_err-check_gate.result is
    (show_none load.plan (state p) c.args.g (length c.args.list.now) (omega (arith, refused.0, h)) ∙ ap (λ k. Some k) (sym why))

pub returns-clause-asked : goal.returns-clause-asked
returns-clause-asked g c = λ load e.
    let p = c.args.self.now in
    let m = g.S.Store.mean p.store in
    let k = c.args.g in
    let list = c.args.list.now in
    let few : k < load.plan.gates = omega (arith, (c.in_ok-check_gate.ensures.there refl), (p.held load e).gates) in
    asked load.plan (state p) (show k (length list)) (model.domain load.plan (state p) k) list c.write_marked.new.list c.write_marked.result c.ok_or.result
    (subst (λ xs. Written xs list c.write_marked.result c.write_marked.new.list) (shown p load e k c.open_row-row.result c.width.result c.width.ensures c.open_row-row.ensures) c.write_marked.ensures)
    c.ok_or.ensures.value (show_passed load.plan (state p) 0 k (length list) few) (show_short load.plan (state p) 0 k (length list) few) (λ a e. e)
