-- What stands at the front of a list.
use Rattle.std.proofs.Common.{◌≡◌, ℕ, ◌≤◌, List, [], ◌∷◌, length, take, set, Ok, Err, Result, sym, refl, subst, arith, length-set}
use Rattle.model.specs.declared.refusal.Refusal.{Refusal}
use Rattle.model.specs.Plans.{Plan}
use Rattle.model.specs.Calls.{Question, Call, ask}
use Rattle.model.specs.Planners.{Planner}
use Rattle.model.specs.Answers.{numbers, Tells}
use Rattle.store.specs.declared.Store.{Ghosts}
use Rattle.planner.specs.declared.Planner.{Planner as Held}
use Rattle.planner.specs.States.{state, Made, Makes}
use Rattle.planner.specs.Lists.{Asks}
use Rattle.console_calls.specs.Making.{Put}

pub put_first : (list : List ℕ) (n : ℕ) (answer : Result ℕ Refusal) → 1 ≤ length list → answer ≡ Ok n → Put answer list (Ok 1) (set list 0 n)
put_first list n answer some e = subst (λ (a : Result ℕ Refusal). Put a list (Ok 1) (set list 0 n)) (sym e) (refl, front list some, length-set list 0 n)
  where
    front : (xs : List ℕ) → 1 ≤ length xs → take 1 (set xs 0 n) ≡ n ∷ []
    front [] h = absurd (omega arith)
    front (x ∷ xs) h = refl

-- A call that answers one number, which is put at the front of a list, by another name for the call.
pub put_makes : {S : Type 0} {g : Ghosts S} (p q : Held S g) (c d : Call) (answer : Result ℕ Refusal) (list after : List ℕ) (r : Result ℕ Refusal)
    → c ≡ d → Makes p d (λ a. numbers (a ∷ [])) answer q → Put answer list r after → Makes p c (λ n. numbers (take n after)) r q
put_makes p q c d answer list after r e m t = subst (λ (x : Call). Makes p x (λ n. numbers (take n after)) r q) (sym e) (put answer r m t)
  where
    put : (answer r : Result ℕ Refusal) → Makes p d (λ a. numbers (a ∷ [])) answer q → Put answer list r after → Makes p d (λ n. numbers (take n after)) r q
    put (Ok n) r m t = λ load h.
        let made = m load h in (
          made.0,
          subst (λ (x : Result ℕ Refusal). Made load.plan (state p) d (λ k. numbers (take k after)) x (state q)) (sym t.0)
              (made.1.0, made.1.1, subst (λ (ns : List ℕ). Tells load.plan d (state p) (state q) (numbers ns)) (sym t.1) made.1.2),
        )
    put (Err k) r m t = λ load h.
        let made = m load h in (
          made.0,
          subst (λ (x : Result ℕ Refusal). Made load.plan (state p) d (λ k. numbers (take k after)) x (state q)) (sym t.0) made.1,
        )

-- A question alters nothing.
pub asks_makes : {S : Type 0} {g : Ghosts S} (p : Held S g) (c : Call) (q : Question) (told : Plan → Planner → List ℕ) (list : List ℕ) (a : Result ℕ Refusal) (after : List ℕ)
    → c ≡ ask q → Asks p q told list a after → Makes p c (λ n. numbers (take n after)) a p
asks_makes p c q told list a after e m = subst (λ (x : Call). Makes p x (λ n. numbers (take n after)) a p) (sym e) (λ load h. (h, (m load h).0))
