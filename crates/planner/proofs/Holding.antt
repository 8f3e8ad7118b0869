-- A planner that holds a load goes on holding it.
use Rattle.std.proofs.Common.{◌≡◌, ℕ, length, Some, Option, Result, sym, ap, ◌∙◌, subst}
use mathlib.Core.HLevel.{is_prop→PathP}
use Rattle.plan.specs.declared.Plan.{Plan as Read}
use Rattle.model.specs.declared.refusal.Refusal.{Refusal}
use Rattle.model.specs.Plans.{Plan, Load}
use Rattle.model.specs.Calls.{Narrowing, Call, narrow}
use Rattle.model.specs.Answers.{Answer}
use Rattle.book.specs.declared.Book.{Book}
use Rattle.store.specs.Meaning.{Meaning}
use Rattle.store.specs.declared.Store.{Ghosts}
use Rattle.planner.specs.declared.Planner.{Planner as Held}
use Rattle.planner.specs.Holdings.{Holds, HoldsGiven, HoldsGiven-prop}
use Rattle.planner.specs.States.{loaded, state, view, Made}
use Rattle.planner.proofs.Narrowing.{plan_of, told, Step}

-- the plan has the store's gates and positions
pub same_plan : (m : Meaning) (load : Load) (saves : ℕ) → Holds m load saves → plan_of m load.plan.rules ≡ load.plan
same_plan m load saves h = λ i. record { gates = h.gates i; width = h.width i; rules = load.plan.rules }

-- a call of the store's, on the planner
pub step_held : (m m' : Meaning) (read : Option Read) (saves : ℕ) (c : Narrowing) (r : Result ℕ Refusal) → Step m c r m' → HoldsGiven m read saves → HoldsGiven m' read saves
step_held m m' read saves c r step h load e =
    let k = h load e in
    record { sound = k.sound; gates = step.gates ∙ k.gates; width = step.width ∙ k.width; marks = k.marks ∙ ap length (sym step.marks) }

module _ {S : Type 0} {g : Ghosts S} where
  -- what is known of a planner's parts is not a part of it
  pub same_planner : (p q : Held S g) → q.store ≡ p.store → q.plan ≡ p.plan → q.book ≡ p.book → q ≡ p
  same_planner p q a b c = λ i. record {
    store = a i;
    plan = b i;
    book = c i;
    held = is_prop→PathP (λ j. HoldsGiven (g.mean (a j)) (b j) (c j).depth) (λ j. HoldsGiven-prop (g.mean (a j)) (b j) (c j).depth) q.held p.held i;
  }

  -- of a planner with the same plan, the store and the book that a call leaves: what `Makes` says of them
  abbrev pub Leaves : {A : Type 0} → Held S g → Call → (A → Answer) → Result A Refusal → S → Book → Type 0
  Leaves p c tell r store book =
      (load : Load) → loaded p ≡ Some load → (loaded p ≡ Some load) × Made load.plan (state p) c tell r (view (g.mean store) book.notes.rows book.saved)

  pub step_makes : (p : Held S g) (store : S) (c : Narrowing) (r : Result ℕ Refusal) → Step (g.mean p.store) c r (g.mean store) → Leaves p (narrow c) told r store p.book
  step_makes p store c r step load e = (
    e,
    subst (λ (plan : Plan). Made plan (state p) (narrow c) told r (view (g.mean store) p.book.notes.rows p.book.saved)) (same_plan (g.mean p.store) load p.book.depth (p.held load e))
        (step.made load.plan.rules p.book.notes.rows p.book.saved),
  )
