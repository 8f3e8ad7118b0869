-- Note, changes, show and same.
use Rattle.std.proofs.Common.{◌≡◌, ℕ, ◌<◌, ◌≤◌, Bool, true, false, cond, not, ◌&&◌, eqb, ltb, leb, List, [], ◌∷◌, ◌++◌, length, get_or, take, drop, set, Some, None, Ok, Err, Option, Result, sym, refl, ap, ◌∙◌, subst, ap₂, ⊎_elim, arith}
use mathlib.Core.Path.{fun_ext}
use Rattle.std.specs.Bool.{beq}
use Rattle.std.specs.Option.{ok_or}
use Rattle.std.proofs.lemmas.List.{get_or-set_same, get_or-set_other}
use Rattle.std.proofs.lemmas.Bool.{eq-eqb, ne_eqb, cases_eq, lt-ltb, le-ltb, le-leb, lt-leb, cases_lt}
use Rattle.model.specs.declared.refusal.Refusal.{Refusal}
use Rattle.model.specs.declared.refusal.Refusal.TheVariants.{NoGate, NoReader, ListTooShort}
use Rattle.model.specs.Bounds.{readers}
use Rattle.model.specs.Families.{Family, has}
use Rattle.model.specs.Plans.{Plan}
use Rattle.model.specs.Calls.{note, changes, show, Question, ask}
use Rattle.model.specs.Planners.{Planner, refusal, changed, domain, Noted}
use Rattle.model.specs.Answers.{Answer, numbers, Tells}
use Rattle.store.specs.Meaning.{Meaning, domains}
use Rattle.book.specs.declared.Notes.{Notes}
use Rattle.book.specs.declared.Book.{Book}
use Rattle.store.specs.declared.Store.{Ghosts}
use Rattle.store.specs.Calls.{GateCheck}
use Rattle.store.proofs.Accepted.{not_both}
use Rattle.planner.specs.declared.Planner.{Planner as Held}
use Rattle.book.specs.Notes.{notes_in}
use Rattle.planner.specs.States.{view, saves_of, Made}
use Rattle.lists.specs.Lists.{alike_at, alike, Written}
use Rattle.planner.specs.Lists.{Wrote}
use Rattle.planner.proofs.Narrowing.{unless_true, unless_false}
use Rattle.planner.proofs.Holding.{Leaves}
use Rattle.lists.proofs.Marking.{all_range, range_all, written_some, written_none}

-- a question leaves all as it was
stays : (plan : Plan) (s : Planner) → Noted plan s s s.notes
stays plan s = record { gone_stay = λ g l. refl; notes_now = λ r g a b. refl; saves_stay = refl }

pub take_front : (xs ys : List ℕ) → take (length xs) (xs ++ ys) ≡ xs
take_front [] ys = refl
take_front (x ∷ xs) ys = ap (λ (zs : List ℕ). x ∷ zs) (take_front xs ys)

-- a question whose positions were written into the list, or did not fit in
module _ (plan : Plan) (s : Planner) (q : Question) (xs list after : List ℕ) where
  pub asked_some : (n : ℕ) → Written xs list (Some n) after → (length xs ≤ length list → refusal plan s (ask q) ≡ None) → ((a : Answer) → a ≡ numbers xs → Tells plan (ask q) s s a)
      → Made plan s (ask q) (λ (k : ℕ). numbers (take k after)) (Ok n) s × Wrote xs list (Ok n) after
  asked_some n so passes tells =
      let w = written_some xs list n after so in
      let front : take n after ≡ xs = ap₂ {C = List ℕ} (λ (k : ℕ) (ys : List ℕ). take k ys) w.1 w.2 ∙ take_front xs (drop (length xs) list) in
      ((passes w.0, stays plan s, tells (numbers (take n after)) (ap {B = Answer} (λ (ys : List ℕ). numbers ys) front)), (w.1, w.2))

  pub asked_none : Written xs list None after → (length list < length xs → refusal plan s (ask q) ≡ Some ListTooShort)
      → Made plan s (ask q) (λ (k : ℕ). numbers (take k after)) (Err ListTooShort) s × Wrote xs list (Err ListTooShort) after
  asked_none so short = let w = written_none xs list after so in ((short w.0, refl), w.1)

-- the tests before a list is looked at are passed, and the list is long enough, or not
module _ (plan : Plan) (s : Planner) (r g room : ℕ) where
  pub changes_passed : r < readers → g < plan.gates → length (changed plan s r g) ≤ room → refusal plan s (ask (changes r g room)) ≡ None
  changes_passed a b h =
      unless_true (ltb r readers) NoReader _ (lt-ltb r readers a) ∙ unless_true (ltb g plan.gates) NoGate _ (lt-ltb g plan.gates b)
      ∙ unless_true (leb (length (changed plan s r g)) room) ListTooShort None (le-leb (length (changed plan s r g)) room h)

  pub changes_short : r < readers → g < plan.gates → room < length (changed plan s r g) → refusal plan s (ask (changes r g room)) ≡ Some ListTooShort
  changes_short a b h =
      unless_true (ltb r readers) NoReader _ (lt-ltb r readers a) ∙ unless_true (ltb g plan.gates) NoGate _ (lt-ltb g plan.gates b)
      ∙ unless_false (leb (length (changed plan s r g)) room) ListTooShort None (lt-leb (length (changed plan s r g)) room h)

  pub changes_none : r < readers → plan.gates ≤ g → refusal plan s (ask (changes r g room)) ≡ Some NoGate
  changes_none a b = unless_true (ltb r readers) NoReader _ (lt-ltb r readers a) ∙ unless_false (ltb g plan.gates) NoGate _ (le-ltb g plan.gates b)

  pub show_passed : g < plan.gates → length (domain plan s g) ≤ room → refusal plan s (ask (show g room)) ≡ None
  show_passed b h =
      unless_true (ltb g plan.gates) NoGate _ (lt-ltb g plan.gates b) ∙ unless_true (leb (length (domain plan s g)) room) ListTooShort None (le-leb (length (domain plan s g)) room h)

  pub show_short : g < plan.gates → room < length (domain plan s g) → refusal plan s (ask (show g room)) ≡ Some ListTooShort
  show_short b h =
      unless_true (ltb g plan.gates) NoGate _ (lt-ltb g plan.gates b) ∙ unless_false (leb (length (domain plan s g)) room) ListTooShort None (lt-leb (length (domain plan s g)) room h)

beq-true : (a b : Bool) → beq a b ≡ true → a ≡ b
beq-true true true e = refl
beq-true true false e = cc
beq-true false true e = cc
beq-true false false e = refl

true-beq : (a b : Bool) → a ≡ b → beq a b ≡ true
true-beq true true e = refl
true-beq true false e = sym e
true-beq false true e = e
true-beq false false e = refl

pub show_none : (plan : Plan) (s : Planner) (g room : ℕ) → plan.gates ≤ g → refusal plan s (ask (show g room)) ≡ Some NoGate
show_none plan s g room b = unless_false (ltb g plan.gates) NoGate _ (le-ltb g plan.gates b)

-- domains are shut outside of n and w
and_false : (a : Bool) → (a && false) ≡ false
and_false true = refl
and_false false = refl

shut_gate : (m : Meaning) (g p : ℕ) → m.gates ≤ g → domains m g p ≡ false
shut_gate m g p h = ap (λ (b : Bool). b && (ltb p m.width && not (has (m.gone g) p))) (le-ltb g m.gates h)

shut_place : (m : Meaning) (g p : ℕ) → m.width ≤ p → domains m g p ≡ false
shut_place m g p h = ap (λ (b : Bool). ltb g m.gates && (b && not (has (m.gone g) p))) (le-ltb p m.width h) ∙ and_false (ltb g m.gates)

module _ (m n : Meaning) (gates : m.gates ≡ n.gates) (width : m.width ≡ n.width) where
  pub alike_agree : alike m n ≡ true → domains m ≡ domains n
  alike_agree e = fun_ext (λ g. fun_ext (λ p. one g p))
    where
      one : (g p : ℕ) → domains m g p ≡ domains n g p
      one g p =
          ⊎_elim
          (λ (x : g < m.gates). ⊎_elim
          (λ (y : p < m.width). beq-true (domains m g p) (domains n g p) (all_range m.width (λ q. beq (domains m g q) (domains n g q)) (all_range m.gates (alike_at m n) e g x) p y))
          (λ (y : m.width ≤ p). shut_place m g p y ∙ sym (shut_place n g p (omega arith)))
          (cases_lt p m.width))
          (λ (x : m.gates ≤ g). shut_gate m g p x ∙ sym (shut_gate n g p (omega arith)))
          (cases_lt g m.gates)

  pub agree_alike : domains m ≡ domains n → alike m n ≡ true
  agree_alike e =
      range_all m.gates (alike_at m n)
      (λ g l. range_all m.width (λ p. beq (domains m g p) (domains n g p)) (λ p k. true-beq (domains m g p) (domains n g p) (ap (λ (d : Family). d g p) e)))

-- a reader notes
noted : (plan : Plan) (m : Meaning) (rows rows' : List (List ℕ)) (saved saved' : List Notes) (r : ℕ) (row : List ℕ)
    → rows' ≡ set rows r row → saved' ≡ saved → r < length rows → ((g : ℕ) → g < plan.gates → get_or row g 0 ≡ length (m.gone g))
    → Noted plan (view m rows saved) (view m rows' saved') (λ k g. cond (eqb k r) (length (m.gone g)) (notes_in rows k g))
noted plan m rows rows' saved saved' r row is same l h =
    record {
      gone_stay = λ g a. refl;
      notes_now = λ k g a b. ap (λ (ys : List (List ℕ)). notes_in ys k g) is ∙ ⊎_elim
          (λ (e : k ≡ r).
          ap (λ (i : ℕ). notes_in (set rows r row) i g) e ∙ ap (λ (ys : List ℕ). get_or ys g 0) (get_or-set_same rows r row [] l) ∙ h g b
          ∙ sym (ap (λ (x : Bool). cond x (length (m.gone g)) (notes_in rows k g)) (eq-eqb k r e)))
          (λ (ne : k ≡ r → ⊥).
          ap (λ (ys : List ℕ). get_or ys g 0) (get_or-set_other rows r k row [] ne)
          ∙ sym (ap (λ (x : Bool). cond x (length (m.gone g)) (notes_in rows k g)) (ne_eqb k r ne)))
          (cases_eq k r);
      saves_stay = ap (saves_of m.marks) same;
    }

pub note_makes : {S : Type 0} {g : Ghosts S} (p : Held S g) (book : Book) (r : ℕ) (row : List ℕ) → book.notes.rows ≡ set p.book.notes.rows r row → book.saved ≡ p.book.saved
    → r < readers → length p.book.notes.rows ≡ readers → ((h : ℕ) → h < (g.mean p.store).gates → get_or row h 0 ≡ length ((g.mean p.store).gone h))
    → Leaves {A = Unit {0}} p (note r) (λ _. numbers []) (Ok (tt {0})) p.store book
note_makes {g = g} p book r row is same few long lengths load e =
    let h = p.held load e in (
      e,
      (
        unless_true (ltb r readers) NoReader None (lt-ltb r readers few),
        noted load.plan (g.mean p.store) p.book.notes.rows book.notes.rows p.book.saved book.saved r row is same (omega arith) (λ k a. lengths k (omega (arith, h.gates))),
        refl,
      ),
    )

-- a gate that was refused is none of the plan's
pub gate_refused : (m : Meaning) (k : ℕ) (x : Refusal) → GateCheck m k (Err x) → (m.gates ≤ k) × (x ≡ NoGate)
gate_refused m k x c =
    ⊎_elim
    (λ (h : k < m.gates). absurd (not_both tt x (sym (c.done h))))
    (λ (h : m.gates ≤ k). (h, (let e = c.gate h in let z : x ≡ NoGate = cc in z)))
    (cases_lt k m.gates)

-- a question whose answer stands in a row that is written into the list
pub asked : (plan : Plan) (s : Planner) (q : Question) (xs list after : List ℕ) (o : Option ℕ) (r : Result ℕ Refusal) → Written xs list o after → r ≡ ok_or o ListTooShort
    → (length xs ≤ length list → refusal plan s (ask q) ≡ None) → (length list < length xs → refusal plan s (ask q) ≡ Some ListTooShort)
    → ((a : Answer) → a ≡ numbers xs → Tells plan (ask q) s s a) → Made plan s (ask q) (λ (k : ℕ). numbers (take k after)) r s × Wrote xs list r after
asked plan s q xs list after o r so e passes short tells =
    subst (λ (x : Result ℕ Refusal). Made plan s (ask q) (λ (k : ℕ). numbers (take k after)) x s × Wrote xs list x after) (sym e) (go o so)
  where
    go : (o : Option ℕ) → Written xs list o after → Made plan s (ask q) (λ (k : ℕ). numbers (take k after)) (ok_or o ListTooShort) s × Wrote xs list (ok_or o ListTooShort) after
    go (Some n) so = asked_some plan s q xs list after n so passes tells
    go None so = asked_none plan s q xs list after so short

-- a question that is refused
pub asked_refused : (plan : Plan) (s : Planner) (q : Question) (xs list : List ℕ) (x : Refusal) (r : Result ℕ Refusal) → r ≡ Err x → refusal plan s (ask q) ≡ Some x
    → Made plan s (ask q) (λ (k : ℕ). numbers (take k list)) r s × Wrote xs list r list
asked_refused plan s q xs list x r e why =
    subst (λ (y : Result ℕ Refusal). Made plan s (ask q) (λ (k : ℕ). numbers (take k list)) y s × Wrote xs list y list) (sym e) ((why, refl), refl)
