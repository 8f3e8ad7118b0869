-- A store begins with a load: gate after gate keeps what it starts with.
use Rattle.std.proofs.Common.{◌≡◌, ℕ, zero, suc, ◌+◌, ◌<◌, ◌≤◌, Bool, true, false, cond, not, ◌&&◌, ◌||◌, eqb, ltb, List, [], ◌∷◌, length, get_or, take, drop, Some, Result, sym, refl, ap, ◌∙◌, ap₂, ⊎_elim, arith}
use Rattle.std.proofs.lemmas.Bool.{eq-eqb, ne_eqb, cases_eq, cases_lt, lt-ltb, le-ltb, ltb-true, and_left, and_parts}
use Rattle.model.specs.declared.refusal.Refusal.{Refusal}
use Rattle.model.specs.Families.{has}
use Rattle.model.specs.Plans.{Load}
use Rattle.model.specs.Ledgers.{ascending}
use Rattle.model.specs.Planners.{all_below}
use Rattle.model.proofs.Meaning.{has_append}
use Rattle.model.proofs.Tests.{is_true}
use Rattle.store.specs.Meaning.{Meaning, domains}
use Rattle.store.specs.Calls.{Keep}
use Rattle.store.proofs.Members.{below_all, has_at}
use Rattle.store.proofs.Sweeps.{leaving_same}
use Rattle.lists.specs.Lists.{marked, Written}
use Rattle.planner.specs.Loads.{Starts}
use Rattle.lists.proofs.Marking.{written_some, with_false}
use Rattle.planner.proofs.Asking.{take_front}
use Rattle.planner.proofs.Narrowing.{domains_kept}

-- what an ascending list has
pub has_ascending : (w : ℕ) (t : ℕ → Bool) (q : ℕ) → has (ascending w t) q ≡ (ltb q w && t q)
has_ascending zero t q = sym (and_left (ltb q 0) (t q) (le-ltb q 0 (omega arith)))
has_ascending (suc w) t q =
    has_append (ascending w t) (cond (t w) (w ∷ []) []) q ∙ ap (λ (b : Bool). b || has (cond (t w) (w ∷ []) []) q) (has_ascending w t q)
    ∙ ⊎_elim
    (λ (e : q ≡ w).
    ap (λ (b : Bool). (b && t q) || has (cond (t w) (w ∷ []) []) q) (le-ltb q w (omega arith)) ∙ one (t w) (eqb q w) (eq-eqb q w e) refl
    ∙ ap t (sym e) ∙ sym (ap (λ (b : Bool). b && t q) (lt-ltb q (suc w) (omega arith))))
    (λ (ne : q ≡ w → ⊥).
    ap (λ (b : Bool). (ltb q w && t q) || b) (none (t w) (ne_eqb q w ne)) ∙ with_false (ltb q w && t q)
    ∙ ap (λ (b : Bool). b && t q) (⊎_elim (λ (l : q < w). lt-ltb q w l ∙ sym (lt-ltb q (suc w) (omega arith))) (λ (l : w ≤ q). le-ltb q w l ∙ sym (le-ltb q (suc w) (omega arith))) (cases_lt q w)))
    (cases_eq q w)
  where
    one : (b c : Bool) → c ≡ true → c ≡ eqb q w → has (cond b (w ∷ []) []) q ≡ b
    one true c y e = with_false (eqb q w) ∙ sym e ∙ y
    one false c y e = refl

    none : (b : Bool) → eqb q w ≡ false → has (cond b (w ∷ []) []) q ≡ false
    none true n = with_false (eqb q w) ∙ n
    none false n = refl

ascending_below : (w : ℕ) (t : ℕ → Bool) (i : ℕ) → i < length (ascending w t) → get_or (ascending w t) i 0 < w
ascending_below w t i l =
    let q = get_or (ascending w t) i 0 in
    ltb-true q w (and_parts (ltb q w) (t q) (sym (has_ascending w t q) ∙ has_at q (ascending w t) i l refl)).0

-- a row's positions were written into a list, and kept
pub starts_kept : (m m' : Meaning) (g : ℕ) (row : List Bool) (start : ℕ → Bool) (list after : List ℕ) (many : ℕ) (r : Result ℕ Refusal)
    → ((q : ℕ) → q < m.width → get_or row q false ≡ start q) → Written (marked row m.width) list (Some many) after → Keep m g (take many after) r m' → g < m.gates → Starts m g start m'
starts_kept m m' g row start list after many r is so k l =
    let t : ℕ → Bool = λ q. get_or row q false in
    let xs = ascending m.width t in
    let w = written_some xs list many after so in
    let front : take many after ≡ xs = ap₂ {C = List ℕ} (λ (n : ℕ) (ys : List ℕ). take n ys) w.1 w.2 ∙ take_front xs (drop (length xs) list) in
    let small : all_below m.width xs ≡ true = is_true (all_below m.width xs) (below_all m.width xs (ascending_below m.width t)) in
    let d = k.done l (ap (all_below m.width) front ∙ small) in (
      d.0,
      leaving_same m g (has (take many after)) start d.0
          (λ q h. ap (λ (ys : List ℕ). has ys q) front ∙ has_ascending m.width t q ∙ ap (λ (b : Bool). b && t q) (lt-ltb q m.width h) ∙ is q h) d.1,
      d.2,
    )

-- the first i gates have what they start with, the others all
pub record Under (load : Load) (i : ℕ) (m : Meaning) : Type 0 where
  pub gates : m.gates ≡ load.plan.gates
  pub width : m.width ≡ load.plan.width
  pub marks : m.marks ≡ []
  pub so_far : (h q : ℕ) → domains m h q ≡ ((ltb h load.plan.gates && ltb q load.plan.width) && (not (ltb h i) || load.start h q))

pub under_step : (load : Load) (i : ℕ) (m m' : Meaning) → Under load i m → Starts m i (load.start i) m' → Under load (i + 1) m'
under_step load i m m' u s =
    record {
      gates = ap (λ (x : Meaning). x.gates) s.2 ∙ u.gates;
      width = ap (λ (x : Meaning). x.width) s.2 ∙ u.width;
      marks = ap (λ (x : Meaning). x.marks) s.2 ∙ u.marks;
      so_far = λ h q.
          ap (λ (x : Meaning). domains x h q) s.2 ∙ domains_kept m i (load.start i) s.0 s.1 h q
          ∙ ap (λ (b : Bool). b && (not (eqb h i) || load.start i q)) (u.so_far h q)
          ∙ next h q (ltb h load.plan.gates && ltb q load.plan.width);
    }
  where
    same : (a b : Bool) → ((a && b) && true) ≡ (a && b)
    same true true = refl
    same true false = refl
    same false b = refl

    back : (a b : Bool) → ((a && true) && b) ≡ (a && b)
    back true b = refl
    back false b = refl

    next : (h q : ℕ) (a : Bool) → ((a && (not (ltb h i) || load.start h q)) && (not (eqb h i) || load.start i q)) ≡ (a && (not (ltb h (i + 1)) || load.start h q))
    next h q a =
        ⊎_elim
        (λ (e : h ≡ i).
        ap₂ {C = Bool} (λ (x y : Bool). (a && (not x || load.start h q)) && (not y || load.start i q)) (le-ltb h i (omega arith)) (eq-eqb h i e)
        ∙ back a (load.start i q) ∙ ap (λ (k : ℕ). a && load.start k q) (sym e)
        ∙ sym (ap (λ (x : Bool). a && (not x || load.start h q)) (lt-ltb h (i + 1) (omega arith))))
        (λ (ne : h ≡ i → ⊥).
        ap (λ (y : Bool). (a && (not (ltb h i) || load.start h q)) && (not y || load.start i q)) (ne_eqb h i ne)
        ∙ same a (not (ltb h i) || load.start h q)
        ∙ ap (λ (x : Bool). a && (not x || load.start h q))
        (⊎_elim (λ (l : h < i). lt-ltb h i l ∙ sym (lt-ltb h (i + 1) (omega arith))) (λ (l : i ≤ h). le-ltb h i l ∙ sym (le-ltb h (i + 1) (omega arith))) (cases_lt h i)))
        (cases_eq h i)
