-- The store's strike, bind and keep, as the planner's.
use Rattle.std.proofs.Common.{◌≡◌, ℕ, ◌<◌, ◌≤◌, Bool, true, false, cond, not, ◌&&◌, ◌||◌, eqb, ltb, List, [], ◌∷◌, ◌++◌, length, Some, None, Ok, Err, Option, Result, sym, refl, ap, ◌∙◌, subst, ap₂, ⊎_elim, arith}
use mathlib.Core.Path.{fun_ext}
use Rattle.std.proofs.lemmas.Bool.{eq-eqb, ne_eqb, eqb-true, cases_eq, cases_Bool, lt-ltb, le-ltb, ltb-true, cases_lt, both_ways, not-false}
use Rattle.std.proofs.lemmas.List.{append-nil}
use Rattle.model.specs.declared.refusal.Refusal.{Refusal}
use Rattle.model.specs.declared.refusal.Refusal.TheVariants.{NoGate, NoPosition}
use Rattle.model.specs.Families.{has}
use Rattle.model.specs.Rules.{Rule}
use Rattle.model.specs.Plans.{Plan}
use Rattle.model.specs.Calls.{Narrowing, strike, bind, keep, leaves, Call, narrow}
use Rattle.model.specs.Ledgers.{narrowed}
use Rattle.model.specs.Planners.{Planner, domains_of, domain, refusal, unless, all_below, Done}
use Rattle.model.specs.Answers.{Answer, numbers, Tells}
use Rattle.model.proofs.Meaning.{has_append}
use Rattle.store.specs.Meaning.{Meaning, changed_at, appended, Sound, left, domains}
use Rattle.store.specs.Calls.{Strike, Bind, Keep, Kept, Leaving}
use Rattle.store.proofs.Meanings.{at_same, at_other, appended_nil}
use Rattle.book.specs.declared.Notes.{Notes}
use Rattle.planner.specs.States.{view, Made}

-- the plan of a store's gates and positions, with these rules
abbrev pub plan_of : Meaning → List Rule → Plan
plan_of m rules = record { gates = m.gates; width = m.width; rules = rules }

abbrev pub told : ℕ → Answer
told a = numbers (a ∷ [])

-- an answer or a refusal, by an equation
pub refused : {A : Type 0} (plan : Plan) (s : Planner) (c : Call) (tell : A → Answer) (r : Result A Refusal) (e : Planner) (k : Refusal)
    → r ≡ Err k → refusal plan s c ≡ Some k → e ≡ s → Made plan s c tell r e
refused plan s c tell r e k p no' h = subst (λ (x : Result _ Refusal). Made plan s c tell x e) (sym p) (no', h)

pub accepted : {A : Type 0} (plan : Plan) (s : Planner) (c : Call) (tell : A → Answer) (r : Result A Refusal) (e : Planner) (a : A)
    → r ≡ Ok a → refusal plan s c ≡ None → Done plan c s e → Tells plan c s e (tell a) → Made plan s c tell r e
accepted plan s c tell r e a p ok h t = subst (λ (x : Result _ Refusal). Made plan s c tell x e) (sym p) (ok, h, t)

not_not : (k : Bool) → not (not k) ≡ k
not_not true = refl
not_not false = refl

with_true : (a : Bool) → a ≡ (a && true)
with_true true = refl
with_true false = refl

less : (a b c d k : Bool) → (b ≡ true → c ≡ false → d ≡ not k) → (a && (b && not (c || d))) ≡ ((a && (b && not c)) && k)
less false b c d k h = refl
less true false c d k h = refl
less true true true d k h = refl
less true true false d k h = ap not (h refl refl) ∙ not_not k

-- what a narrowing leaves, of a gate's positions
abbrev pub Leaves : Narrowing → ℕ → (ℕ → Bool) → Type 0
Leaves c g kept = (h q : ℕ) → leaves c h q ≡ (not (eqb h g) || kept q)

module _ (m : Meaning) where
  grown : (g : ℕ) (xs : List ℕ) (h : ℕ) → (more : List ℕ) × ((appended m g xs).gone h ≡ m.gone h ++ more)
  grown g xs h =
      ⊎_elim
      (λ (e : h ≡ g). (xs, subst (λ (k : ℕ). changed_at m.gone g (m.gone g ++ xs) k ≡ m.gone k ++ xs) (sym e) (at_same m.gone g (m.gone g ++ xs))))
      (λ (ne : h ≡ g → ⊥). ([], at_other m.gone g h (m.gone g ++ xs) ne ∙ sym (append-nil (m.gone h))))
      (cases_eq h g)

  outs : (g : ℕ) (kept : ℕ → Bool) (xs : List ℕ) → Leaving m g kept xs → (q : ℕ) → q < m.width → has (m.gone g) q ≡ false → has xs q ≡ not (kept q)
  outs g kept xs l q w o =
      ⊎_elim
      (λ (e : kept q ≡ true).
      ⊎_elim
      (λ (f : has xs q ≡ true). absurd (both_ways (kept q) (l.others q f) e))
      (λ (f : has xs q ≡ false). f ∙ ap not (sym e))
      (cases_Bool (has xs q)))
      (λ (e : kept q ≡ false). l.those q w o e ∙ ap not (sym e))
      (cases_Bool (kept q))

  -- what is left is what was open, and at the gate is kept
  pub domains_kept : (g : ℕ) (kept : ℕ → Bool) (xs : List ℕ) → Leaving m g kept xs → (h q : ℕ) → domains (appended m g xs) h q ≡ (domains m h q && (not (eqb h g) || kept q))
  domains_kept g kept xs l h q =
      ⊎_elim
      (λ (e : h ≡ g).
      let n : (not (eqb h g) || kept q) ≡ kept q = ap (λ (b : Bool). not b || kept q) (eq-eqb h g e) in
      let here : has ((appended m g xs).gone h) q ≡ (has (m.gone h) q || has xs q) =
      ap (λ (ys : List ℕ). has ys q) (subst (λ (k : ℕ). changed_at m.gone g (m.gone g ++ xs) k ≡ m.gone k ++ xs) (sym e) (at_same m.gone g (m.gone g ++ xs)))
      ∙ has_append (m.gone h) xs q in
      ap (λ (b : Bool). ltb h m.gates && (ltb q m.width && not b)) here
      ∙ less (ltb h m.gates) (ltb q m.width) (has (m.gone h) q) (has xs q) (kept q)
      (λ w o. outs g kept xs l q (ltb-true q m.width w) (ap (λ (k : ℕ). has (m.gone k) q) (sym e) ∙ o))
      ∙ ap (λ (b : Bool). domains m h q && b) (sym n))
      (λ (ne : h ≡ g → ⊥).
      let n : (not (eqb h g) || kept q) ≡ true = ap (λ (b : Bool). not b || kept q) (ne_eqb h g ne) in
      ap (λ (ys : List ℕ). ltb h m.gates && (ltb q m.width && not (has ys q))) (at_other m.gone g h (m.gone g ++ xs) ne)
      ∙ with_true (domains m h q) ∙ ap (λ (b : Bool). domains m h q && b) (sym n))
      (cases_eq h g)

  domains_narrowed : (c : Narrowing) (g : ℕ) (kept : ℕ → Bool) (xs : List ℕ) → Leaving m g kept xs → Leaves c g kept → domains (appended m g xs) ≡ narrowed c (domains m)
  domains_narrowed c g kept xs l same = fun_ext (λ h. fun_ext (λ q. domains_kept g kept xs l h q ∙ ap (λ (b : Bool). domains m h q && b) (sym (same h q))))

  narrow_done : (rules : List Rule) (notes : List (List ℕ)) (saved : List Notes) (c : Narrowing) (g : ℕ) (kept : ℕ → Bool) (xs : List ℕ) → Leaving m g kept xs → Leaves c g kept
      → (m' : Meaning) → m' ≡ appended m g xs → Sound m' → Done (plan_of m rules) (narrow c) (view m notes saved) (view m' notes saved)
  narrow_done rules notes saved c g kept xs l same m' e s =
      record {
        grows = λ h _. subst (λ (x : Meaning). (more : List ℕ) × (x.gone h ≡ m.gone h ++ more)) (sym e) (grown g xs h);
        once = λ h _. s.once h;
        left = ap (λ (x : Meaning). domains_of (plan_of m rules) (view x notes saved)) e ∙ domains_narrowed c g kept xs l same;
        notes_stay = λ r h a b. refl;
        saves_stay = ap (λ (x : Meaning). (view x notes saved).saves) e;
      }

-- a strike's one position
struck : (m : Meaning) (g p : ℕ) → p < m.width → has (m.gone g) p ≡ false → Leaving m g (λ q. not (eqb q p)) (p ∷ [])
struck m g p w o =
    record {
      once = (λ t. t, tt);
      those = λ q l u k. let f = eqb-true q p (not-false (eqb q p) k) in in_one q f;
      below = λ q h. let f = is_one q h in omega arith;
      opened = λ q h. ap (has (m.gone g)) (is_one q h) ∙ o;
      others = λ q h. ap not (eq-eqb q p (is_one q h));
    }
  where
    in_one : (q : ℕ) → q ≡ p → has (p ∷ []) q ≡ true
    in_one q e = ap (λ (b : Bool). b || false) (eq-eqb q p e)

    is_one : (q : ℕ) → has (p ∷ []) q ≡ true → q ≡ p
    is_one q h =
        ⊎_elim (λ (e : q ≡ p). e) (λ (ne : q ≡ p → ⊥). absurd (both_ways (has (p ∷ []) q) (ap (λ (b : Bool). b || false) (ne_eqb q p ne)) h)) (cases_eq q p)

unstruck : (m : Meaning) (g p : ℕ) → has (m.gone g) p ≡ true → Leaving m g (λ q. not (eqb q p)) []
unstruck m g p o =
    record {
      once = tt;
      those = λ q l u k. let f = eqb-true q p (not-false (eqb q p) k) in absurd (both_ways (has (m.gone g) q) u (ap (has (m.gone g)) f ∙ o));
      below = λ q h. absurd (both_ways false refl h);
      opened = λ q h. absurd (both_ways false refl h);
      others = λ q h. absurd (both_ways false refl h);
    }

strike_leaves : (g p : ℕ) → Leaves (strike g p) g (λ q. not (eqb q p))
strike_leaves g p h q = go (eqb h g) (eqb q p)
  where
    go : (a b : Bool) → not (a && b) ≡ (not a || not b)
    go true b = refl
    go false b = refl

-- a call of the store's, as the planner's, whatever the rules, notes and saves
pub record Step (m : Meaning) (c : Narrowing) (r : Result ℕ Refusal) (m' : Meaning) : Type 0 where
  pub gates : m'.gates ≡ m.gates
  pub width : m'.width ≡ m.width
  pub marks : m'.marks ≡ m.marks
  pub made : (rules : List Rule) (notes : List (List ℕ)) (saved : List Notes) → Made (plan_of m rules) (view m notes saved) (narrow c) told r (view m' notes saved)

module _ (m : Meaning) (c : Narrowing) (r : Result ℕ Refusal) (m' : Meaning) where
  no_step : (k : Refusal) → (r ≡ Err k) × (m' ≡ m) → ((rules : List Rule) (s : Planner) → refusal (plan_of m rules) s (narrow c) ≡ Some k) → Step m c r m'
  no_step k e no' =
      record {
        gates = ap (λ (x : Meaning). x.gates) e.1;
        width = ap (λ (x : Meaning). x.width) e.1;
        marks = ap (λ (x : Meaning). x.marks) e.1;
        made = λ rules notes saved. refused (plan_of m rules) (view m notes saved) (narrow c) told r (view m' notes saved) k e.0 (no' rules (view m notes saved))
            (ap (λ (x : Meaning). view x notes saved) e.1);
      }

  a_step : (g : ℕ) (kept : ℕ → Bool) (xs : List ℕ) (a : ℕ) → Leaving m g kept xs → Leaves c g kept → m' ≡ appended m g xs → Sound m' → r ≡ Ok a
      → ((rules : List Rule) (notes : List (List ℕ)) (saved : List Notes) → Tells (plan_of m rules) (narrow c) (view m notes saved) (view m' notes saved) (told a))
      → ((rules : List Rule) (s : Planner) → refusal (plan_of m rules) s (narrow c) ≡ None) → Step m c r m'
  a_step g kept xs a l same e s ra right ok =
      record {
        gates = ap (λ (x : Meaning). x.gates) e;
        width = ap (λ (x : Meaning). x.width) e;
        marks = ap (λ (x : Meaning). x.marks) e;
        made = λ rules notes saved. accepted (plan_of m rules) (view m notes saved) (narrow c) told r (view m' notes saved) a ra (ok rules (view m notes saved))
            (narrow_done m rules notes saved c g kept xs l same m' e s) (right rules notes saved);
      }

-- a test passed, or not
pub unless_true : (b : Bool) (k : Refusal) (next : Option Refusal) → b ≡ true → unless b k next ≡ next
unless_true b k next e = ap (λ (x : Bool). unless x k next) e

pub unless_false : (b : Bool) (k : Refusal) (next : Option Refusal) → b ≡ false → unless b k next ≡ Some k
unless_false b k next e = ap (λ (x : Bool). unless x k next) e

module _ (m : Meaning) (g p : ℕ) (r : Result ℕ Refusal) (m' : Meaning) (s : Sound m') where
  no_gate : (next : Option Refusal) → m.gates ≤ g → unless (ltb g m.gates) NoGate next ≡ Some NoGate
  no_gate next a = unless_false (ltb g m.gates) NoGate next (le-ltb g m.gates a)

  no_place : g < m.gates → m.width ≤ p → unless (ltb g m.gates) NoGate (unless (ltb p m.width) NoPosition None) ≡ Some NoPosition
  no_place a b = unless_true (ltb g m.gates) NoGate _ (lt-ltb g m.gates a) ∙ unless_false (ltb p m.width) NoPosition None (le-ltb p m.width b)

  passed : g < m.gates → p < m.width → unless (ltb g m.gates) NoGate (unless (ltb p m.width) NoPosition None) ≡ None
  passed a b = unless_true (ltb g m.gates) NoGate _ (lt-ltb g m.gates a) ∙ unless_true (ltb p m.width) NoPosition None (lt-ltb p m.width b)

  opens : g < m.gates → p < m.width → domains m g p ≡ not (has (m.gone g) p)
  opens a b = ap₂ {C = Bool} (λ (x y : Bool). x && (y && not (has (m.gone g) p))) (lt-ltb g m.gates a) (lt-ltb p m.width b)

  hits : (b : Bool) (a : ℕ) → a ≡ cond b 1 0 → domains m g p ≡ b → numbers (a ∷ []) ≡ numbers (cond (domains m g p) 1 0 ∷ [])
  hits b a e d = ap {B = Answer} (λ (x : ℕ). numbers (x ∷ [])) (e ∙ sym (ap (λ (t : Bool). cond t 1 0) d))

  pub strike_step : Strike m g p r m' → Step m (strike g p) r m'
  strike_step k =
      ⊎_elim
      (λ (a : g < m.gates). ⊎_elim
      (λ (b : p < m.width). ⊎_elim
      (λ (o : has (m.gone g) p ≡ true).
      let x = k.miss a b o in
      a_step m (strike g p) r m' g (λ q. not (eqb q p)) [] 0 (unstruck m g p o) (strike_leaves g p) (x.1 ∙ sym (appended_nil m g)) s x.0
      (λ rules notes saved. hits false 0 refl (opens a b ∙ ap not o)) (λ rules v. passed a b))
      (λ (o : has (m.gone g) p ≡ false).
      let x = k.hit a b o in
      a_step m (strike g p) r m' g (λ q. not (eqb q p)) (p ∷ []) 1 (struck m g p b o) (strike_leaves g p) x.1 s x.0
      (λ rules notes saved. hits true 1 refl (opens a b ∙ ap not o)) (λ rules v. passed a b))
      (cases_Bool (has (m.gone g) p)))
      (λ (b : m.width ≤ p). no_step m (strike g p) r m' NoPosition (k.position a b) (λ rules v. no_place a b))
      (cases_lt p m.width))
      (λ (a : m.gates ≤ g). no_step m (strike g p) r m' NoGate (k.gate a) (λ rules v. no_gate _ a))
      (cases_lt g m.gates)

  -- what is left is counted by the plan as it was
  pub kept_step : (c : Narrowing) (kept : ℕ → Bool) → Leaves c g kept → Kept m g kept r m'
      → ((rules : List Rule) (s : Planner) → refusal (plan_of m rules) s (narrow c) ≡ None)
      → ((rules : List Rule) (s e : Planner) (a : Answer) → Tells (plan_of m rules) (narrow c) s e a ≡ (a ≡ numbers (length (domain (plan_of m rules) e g) ∷ [])))
      → Step m c r m'
  kept_step c kept same k ok tells =
      a_step m c r m' g kept k.0 (left m' g) k.1 same k.2 s k.3
      (λ rules notes saved. subst (λ (X : Type 0). X) (sym (tells rules (view m notes saved) (view m' notes saved) (told (left m' g))))
      (subst (λ (x : Meaning). numbers (left x g ∷ []) ≡ numbers (length (domain (plan_of m rules) (view x notes saved) g) ∷ [])) (sym k.2) refl))
      ok

  pub bind_step : Bind m g p r m' → Step m (bind g p) r m'
  bind_step k =
      ⊎_elim
      (λ (a : g < m.gates). ⊎_elim
      (λ (b : p < m.width). kept_step (bind g p) (λ q. eqb q p) (λ h q. refl) (k.done a b) (λ rules v. passed a b) (λ rules v e x. refl))
      (λ (b : m.width ≤ p). no_step m (bind g p) r m' NoPosition (k.position a b) (λ rules v. no_place a b))
      (cases_lt p m.width))
      (λ (a : m.gates ≤ g). no_step m (bind g p) r m' NoGate (k.gate a) (λ rules v. no_gate _ a))
      (cases_lt g m.gates)

module _ (m : Meaning) (g : ℕ) (ps : List ℕ) (r : Result ℕ Refusal) (m' : Meaning) (s : Sound m') where
  pub keep_step : Keep m g ps r m' → Step m (keep g ps) r m'
  keep_step k =
      ⊎_elim
      (λ (a : g < m.gates). ⊎_elim
      (λ (b : all_below m.width ps ≡ true).
      kept_step m g 0 r m' s (keep g ps) (has ps) (λ h q. refl) (k.done a b) (λ rules v. first a ∙ unless_true (all_below m.width ps) NoPosition None b) (λ rules v e x. refl))
      (λ (b : all_below m.width ps ≡ false).
      no_step m (keep g ps) r m' NoPosition (k.position a b) (λ rules v. first a ∙ unless_false (all_below m.width ps) NoPosition None b))
      (cases_Bool (all_below m.width ps)))
      (λ (a : m.gates ≤ g). no_step m (keep g ps) r m' NoGate (k.gate a) (λ rules v. unless_false (ltb g m.gates) NoGate _ (le-ltb g m.gates a)))
      (cases_lt g m.gates)
    where
      first : g < m.gates → unless (ltb g m.gates) NoGate (unless (all_below m.width ps) NoPosition None) ≡ unless (all_below m.width ps) NoPosition None
      first a = unless_true (ltb g m.gates) NoGate _ (lt-ltb g m.gates a)
