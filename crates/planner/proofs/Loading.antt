-- What a load leaves.
use Rattle.std.proofs.Common.{◌≡◌, ℕ, ◌<◌, false, List, [], length, get_or, replicate, is_ok, Ok, Err, Result, sym, refl, ap, ◌∙◌, ap₂, arith}
use Rattle.std.proofs.lemmas.List.{get_or-replicate}
use Rattle.std.specs.Result.{MatchResult}
use Rattle.model.specs.declared.refusal.Refusal.{Refusal}
use Rattle.model.specs.Bounds.{readers}
use Rattle.model.specs.Families.{Family}
use Rattle.model.specs.Plans.{SoundLoad}
use Rattle.model.specs.Planners.{open_in, Loaded}
use Rattle.text.specs.declared.fault.Fault.{Fault}
use Rattle.plan.specs.declared.Plan.{Plan as Read}
use Rattle.plan.specs.Views.{load_of}
use Rattle.plan.specs.Plans.{Reading}
use Rattle.book.specs.declared.Book.{Book}
use Rattle.store.specs.declared.Store.{Ghosts}
use Rattle.book.specs.Notes.{notes_in}
use Rattle.planner.specs.States.{view, saves_of}
use Rattle.planner.specs.Loads.{Begun}

-- a store that was refused to begin
pub not_begun : (r : Result (Unit {0}) Refusal) (k : Fault) (Q : Refusal → Type 0) → MatchResult r (λ x. ◌≡◌ {A = Result (Unit {0}) Fault} (Err k) (Ok x)) Q → is_ok r ≡ false
not_begun (Ok x) k Q h = cc
not_begun (Err e) k Q h = refl

-- a store that was not
pub began : (r : Result (Unit {0}) Refusal) (P : Unit {0} → Type 0) (Q : Refusal → Type 0) → MatchResult r P Q → ((e : Refusal) → Q e → ⊥) → r ≡ Ok tt
began (Ok x) P Q h no' = refl
began (Err e) P Q h no' = absurd (no' e h)

-- a planner that has just loaded a plan
pub load_made : {S : Type 0} (g : Ghosts S) (store : S) (plan : Read) (book : Book) (row : List ℕ) → SoundLoad (load_of plan) → Begun (load_of plan) (g.mean store)
    → book.notes.rows ≡ replicate readers row → ((h : ℕ) → h < (g.mean store).gates → get_or row h 0 ≡ length ((g.mean store).gone h))
    → Loaded (load_of plan) (view (g.mean store) book.notes.rows book.saved)
load_made g store plan book row sound begun rows lengths =
    let m = g.mean store in
    record {
      named = sound.named;
      once = λ h l. (g.sound store).once h;
      starts = sym (ap₂ {C = Family} (λ (n w : ℕ). open_in n w m.gone) begun.gates begun.width) ∙ begun.starts;
      noted = λ r h a b.
          ap (λ (xs : List (List ℕ)). notes_in xs r h) rows ∙ ap (λ (xs : List ℕ). get_or xs h 0) (get_or-replicate readers r row [] a) ∙ lengths h (omega (arith, begun.gates));
      closed = ap (λ (ks : List (ℕ → ℕ)). saves_of ks book.saved) begun.marks;
    }

-- the text says one thing only
pub said : (found : Result Reading Fault) (x y : Reading) → Ok x ≡ found → found ≡ Ok y → x.load ≡ y.load
said found x y a b = let e : x ≡ y = cc in ap (λ (z : Reading). z.load) e
