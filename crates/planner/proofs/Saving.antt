-- Save and restore: the store's marks with the notes saved beside them.
use Rattle.std.proofs.Common.{◌≡◌, ℕ, suc, ◌+◌, ◌-◌, ◌<◌, ◌≤◌, ltb, ◌≢◌, List, [], ◌∷◌, length, get_or, set, Some, None, Ok, Err, Option, Result, sym, refl, ap, ◌∙◌, subst, ap₂, arith}
use Rattle.std.proofs.lemmas.List.{get_or-set_same, get_or-set_other}
use Rattle.std.proofs.lemmas.Bool.{lt-ltb, le-ltb}
use Rattle.model.specs.declared.refusal.Refusal.{Refusal}
use Rattle.model.specs.declared.refusal.Refusal.TheVariants.{TooManySaves, NoSave}
use Rattle.model.specs.Bounds.{most_saves}
use Rattle.model.specs.Plans.{Plan, Load}
use Rattle.model.specs.Calls.{save, restore}
use Rattle.model.specs.Planners.{Save, Saved, Restored}
use Rattle.model.specs.Answers.{Answer, numbers}
use Rattle.store.specs.Meaning as store
use Rattle.store.specs.Meaning.{Meaning, cut}
use Rattle.store.specs.Calls as call
use Rattle.store.specs.declared.Store.{Ghosts}
use Rattle.store.proofs.Accepted.{not_both, save_ok, restore_ok}
use Rattle.book.specs.declared.Notes.{Notes}
use Rattle.book.specs.declared.Book.{Book}
use Rattle.plan.specs.declared.Plan.{Plan as Read}
use Rattle.planner.specs.declared.Planner.{Planner as Held}
use Rattle.book.specs.Notes.{blank, notes_in}
use Rattle.planner.specs.Holdings.{HoldsGiven}
use Rattle.planner.specs.States.{loaded, view, state, saves_of}
use Rattle.planner.proofs.Narrowing.{told, unless_true, unless_false}
use Rattle.planner.proofs.Holding.{Leaves}

saves_set : (ks : List (ℕ → ℕ)) (table : List Notes) (i : ℕ) (x : Notes) → length ks ≤ i → saves_of ks (set table i x) ≡ saves_of ks table
saves_set [] table i x h = refl
saves_set (k ∷ ks) table i x h =
    let ne : length ks ≢ i = λ e. omega arith in
    ap₂ {C = List Save} (λ (y : Notes) (ys : List Save). record { mark = k; notes = notes_in y.rows } ∷ ys)
    (get_or-set_other table i (length ks) x blank ne) (saves_set ks table i x (omega arith))

pub saves_length : (ks : List (ℕ → ℕ)) (table : List Notes) → length (saves_of ks table) ≡ length ks
saves_length [] table = refl
saves_length (k ∷ ks) table = ap suc (saves_length ks table)

module _ (plan : Plan) (m : Meaning) (notes : Notes) (saved : List Notes) where
  save_done : (d : ℕ) → d ≡ length m.marks → d < length saved → (m' : Meaning) → m' ≡ store.saved m
      → (notes' : Notes) → notes' ≡ notes → (saved' : List Notes) → saved' ≡ set saved d notes
      → Saved plan (view m notes.rows saved) (view m' notes'.rows saved')
  save_done d e l m' h notes' n saved' t =
      subst (λ (x : Meaning). Saved plan (view m notes.rows saved) (view x notes'.rows saved')) (sym h)
      (subst (λ (x : Notes). Saved plan (view m notes.rows saved) (view (store.saved m) x.rows saved')) (sym n)
      (subst (λ (x : List Notes). Saved plan (view m notes.rows saved) (view (store.saved m) notes.rows x)) (sym t)
      record {
        gone_stay = λ g a. refl;
        notes_stay = λ r g a b. refl;
        new = record { mark = λ g. length (m.gone g); notes = notes_in (get_or (set saved d notes) (length m.marks) blank).rows };
        one_more = ap {B = List Save} (λ (xs : List Save). record { mark = λ g. length (m.gone g); notes = notes_in (get_or (set saved d notes) (length m.marks) blank).rows } ∷ xs)
            (saves_set m.marks saved d notes (omega arith));
        lengths = λ g a. refl;
        notes_held = λ r g a b. ap (λ (y : Notes). notes_in y.rows r g) (ap (λ (k : ℕ). get_or (set saved d notes) k blank) (sym e) ∙ get_or-set_same saved d notes blank l);
      }))

  restore_done : (d : ℕ) → d + 1 ≡ length m.marks → (m' : Meaning) → m' ≡ store.restored m
      → (notes' : Notes) → notes' ≡ get_or saved d blank → (saved' : List Notes) → saved' ≡ saved
      → Restored plan (view m notes.rows saved) (view m' notes'.rows saved')
  restore_done d e m' h notes' n saved' t =
      subst (λ (x : Meaning). Restored plan (view m notes.rows saved) (view x notes'.rows saved')) (sym h)
      (subst (λ (x : Notes). Restored plan (view m notes.rows saved) (view (store.restored m) x.rows saved')) (sym n)
      (subst (λ (x : List Notes). Restored plan (view m notes.rows saved) (view (store.restored m) (get_or saved d blank).rows x)) (sym t) (go m.marks refl e)))
    where
      go : (ks : List (ℕ → ℕ)) → m.marks ≡ ks → d + 1 ≡ length ks → Restored plan (view m notes.rows saved) (view (cut m ks) (get_or saved d blank).rows saved)
      go [] p l = absurd (omega arith)
      go (k ∷ ks) p l =
          let f : d ≡ length ks = omega arith in
          record {
            newest = record { mark = k; notes = notes_in (get_or saved (length ks) blank).rows };
            one_less = ap (λ (x : List (ℕ → ℕ)). saves_of x saved) p;
            gone_cut = λ g a. refl;
            notes_back = λ r g a b. ap (λ (i : ℕ). notes_in (get_or saved i blank).rows r g) f;
          }

-- what going back to the newest mark leaves alone
restored_fewer : (m : Meaning) (d : ℕ) → d + 1 ≡ length m.marks → length (store.restored m).marks ≡ d
restored_fewer m d e = go m.marks e
  where
    go : (ks : List (ℕ → ℕ)) → d + 1 ≡ length ks → length (cut m ks).marks ≡ d
    go [] l = absurd (omega arith)
    go (k ∷ ks) l = omega arith

cut_gates : (m : Meaning) (ks : List (ℕ → ℕ)) → (cut m ks).gates ≡ m.gates
cut_gates m [] = refl
cut_gates m (k ∷ ks) = refl

cut_width : (m : Meaning) (ks : List (ℕ → ℕ)) → (cut m ks).width ≡ m.width
cut_width m [] = refl
cut_width m (k ∷ ks) = refl

tells : (a b : ℕ) → a ≡ b → numbers (a ∷ []) ≡ numbers (b ∷ [])
tells a b e = ap {B = Answer} (λ (x : ℕ). numbers (x ∷ [])) e

ok_is : (a b : ℕ) → ◌≡◌ {A = Result ℕ Refusal} (Ok a) (Ok b) → a ≡ b
ok_is a b e = cc

-- a mark more, and a mark fewer
pub saved_held : (m m' : Meaning) (read : Option Read) (saves saves' many : ℕ) → call.Save m (Ok many) m' → saves' ≡ saves + 1 → HoldsGiven m read saves → HoldsGiven m' read saves'
saved_held m m' read saves saves' many k d h load e =
    let so = h load e in
    let ok = save_ok m m' many k in
    let long : length m'.marks ≡ length m.marks + 1 = omega (arith, ap (λ (x : Meaning). length x.marks) ok.2) in
    record {
      sound = so.sound;
      gates = ap (λ (x : Meaning). x.gates) ok.2 ∙ so.gates;
      width = ap (λ (x : Meaning). x.width) ok.2 ∙ so.width;
      marks = omega (arith, so.marks);
    }

pub restored_held : (m m' : Meaning) (read : Option Read) (saves saves' many : ℕ) → call.Restore m (Ok many) m' → 0 < saves → saves' ≡ saves - 1 → HoldsGiven m read saves → HoldsGiven m' read saves'
restored_held m m' read saves saves' many k some d h load e =
    let so = h load e in
    let ok = restore_ok m m' many k in
    let one : saves - 1 + 1 ≡ length m.marks = omega (arith, so.marks) in
    record {
      sound = so.sound;
      gates = ap (λ (x : Meaning). x.gates) ok.2 ∙ cut_gates m m.marks ∙ so.gates;
      width = ap (λ (x : Meaning). x.width) ok.2 ∙ cut_width m m.marks ∙ so.width;
      marks = d ∙ sym (ap (λ (x : Meaning). length x.marks) ok.2 ∙ restored_fewer m (saves - 1) one);
    }

-- a planner before a save or a restore and after it
module _ {S : Type 0} {g : Ghosts S} (p : Held S g) (store : S) (book : Book) (many : ℕ) where
  pub save_makes : call.Save (g.mean p.store) (Ok many) (g.mean store) → p.book.depth < most_saves → book.notes ≡ p.book.notes
      → book.saved ≡ set p.book.saved p.book.depth p.book.notes → Leaves p save told (Ok many) store book
  save_makes k room n t load e =
      let h = p.held load e in
      let m = g.mean p.store in
      let ok = save_ok m (g.mean store) many k in
      let long : length (g.mean store).marks ≡ length m.marks + 1 = omega (arith, ap (λ (x : Meaning). length x.marks) ok.2) in
      let few = p.book.few in (
        e,
        (
          unless_true (ltb (length (state p).saves) most_saves) TooManySaves None
              (lt-ltb (length (state p).saves) most_saves (omega (arith, h.marks, saves_length m.marks p.book.saved))),
          save_done load.plan m p.book.notes p.book.saved p.book.depth h.marks (omega (arith, few.1)) (g.mean store) ok.2 book.notes n book.saved t,
          tells many (length (view (g.mean store) book.notes.rows book.saved).saves) (ok_is many (length m.marks + 1) ok.1 ∙ sym long ∙ sym (saves_length (g.mean store).marks book.saved)),
        ),
      )

  pub restore_makes : call.Restore (g.mean p.store) (Ok many) (g.mean store) → 0 < p.book.depth → book.notes ≡ get_or p.book.saved (p.book.depth - 1) blank
      → book.saved ≡ p.book.saved → Leaves p restore told (Ok many) store book
  restore_makes k some n t load e =
      let h = p.held load e in
      let m = g.mean p.store in
      let ok = restore_ok m (g.mean store) many k in
      let one : p.book.depth - 1 + 1 ≡ length m.marks = omega (arith, h.marks) in
      let long : length (g.mean store).marks ≡ p.book.depth - 1 = ap (λ (x : Meaning). length x.marks) ok.2 ∙ restored_fewer m (p.book.depth - 1) one in (
        e,
        (
          unless_true (ltb 0 (length (state p).saves)) NoSave None (lt-ltb 0 (length (state p).saves) (omega (arith, h.marks, saves_length m.marks p.book.saved))),
          restore_done load.plan m p.book.notes p.book.saved (p.book.depth - 1) one (g.mean store) ok.2 book.notes n book.saved t,
          tells many (length (view (g.mean store) book.notes.rows book.saved).saves)
              (ok_is many (length m.marks - 1) ok.1 ∙ (let z : length m.marks - 1 ≡ p.book.depth - 1 = omega arith in z) ∙ sym long ∙ sym (saves_length (g.mean store).marks book.saved)),
        ),
      )

-- where all saves are open, and where none is
module _ {S : Type 0} {g : Ghosts S} (p : Held S g) where
  pub save_refused : most_saves ≤ p.book.depth → Leaves p save told (Err TooManySaves) p.store p.book
  save_refused full load e = (
    e,
    (
      unless_false (ltb (length (state p).saves) most_saves) TooManySaves None
          (le-ltb (length (state p).saves) most_saves (omega (arith, (p.held load e).marks, saves_length (g.mean p.store).marks p.book.saved))),
      refl,
    ),
  )

  pub restore_refused : p.book.depth ≡ 0 → Leaves p restore told (Err NoSave) p.store p.book
  restore_refused none load e = (
    e,
    (
      unless_false (ltb 0 (length (state p).saves)) NoSave None
          (le-ltb 0 (length (state p).saves) (omega (arith, (p.held load e).marks, saves_length (g.mean p.store).marks p.book.saved))),
      refl,
    ),
  )

  -- the store has a mark for each save that the book has room for
  pub save_taken : (k : Refusal) (store : S) → call.Save (g.mean p.store) (Err k) (g.mean store) → p.book.depth < most_saves → (load : Load) → loaded p ≡ Some load → ⊥
  save_taken k store d room load e =
      let h = p.held load e in
      not_both (length (g.mean p.store).marks + 1) k (sym (d.done (omega (arith, h.marks))).0)
