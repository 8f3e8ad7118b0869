-- The reading of a text, field by field.
use Rattle.std.proofs.Common.{◌≡◌, ℕ, zero, suc, ◌+◌, ◌-◌, ◌<◌, ◌≤◌, Bool, true, false, not, ◌&&◌, T, cond, ltb, List, [], ◌∷◌, ◌++◌, length, get_or, take, drop, Some, None, Ok, Err, Option, Result, sym, refl, ap, ◌∙◌, subst, arith, ltb→lt}
use Rattle.std.specs.Option.{is_none}
use mathlib.Core.Path.{fun_ext}
use Rattle.std.proofs.lemmas.Bool.{cond-false, lt-leb}
use Rattle.model.specs.Plans.{Load}
use Rattle.model.specs.declared.refusal.Refusal.{Refusal}
use Rattle.model.specs.declared.refusal.Refusal.TheVariants.{Truncated}
use Rattle.text.specs.declared.fault.Fault.{Fault}
use Rattle.text.specs.declared.head.Head.{Head as Size}
use Rattle.text.specs.declared.kind.PlanKind.{PlanKind}
use Rattle.text.specs.declared.kind.PlanKind.TheVariants.{Head, Positions, Rule, End}
use Rattle.text.specs.Fields.{refused, prefix_at, with_kind, with_prefix, field_at, next_at}
use Rattle.text.specs.Kinds.{plan_kind}
use Rattle.text.specs.Lengths.{with_payload}
use Rattle.text.specs.Payloads.{head_of}
use Rattle.plan.specs.declared.draft.Draft.{Draft}
use Rattle.plan.specs.Views.{load_of}
use Rattle.plan.specs.Plans.{Field, plan_field, is_head, is_end, size_in, opens, rules_in, load_in, unfit_by, full_by, verdict, fault, Reading, decided, asked, read_from, plan_text}
use Rattle.plan.specs.Drafts.{Holds, Took, Underway, Begun}
use Rattle.plan.proofs.Verdicts.{differ}

pub nothing_left : (text : List ℕ) (at : ℕ) → length text ≤ at → plan_field text at ≡ refused Truncated at
unfolding field_at
nothing_left text at h =
    let lt : length text < at + 3 = omega arith in
    ap (with_prefix plan_kind text at) (cond-false _ _ _ (lt-leb (at + 3) (length text) lt))

-- ---- a field stands where it was asked for

pub record StandsAt {X : Type 0} (at : ℕ) (place : X → ℕ) (r : Result X Fault) : Type 0 where
  pub ok : (x : X) → r ≡ Ok x → place x ≡ at
  pub err : (e : Fault) → r ≡ Err e → e.place ≡ at

kind_stands : (at : ℕ) (made : Result PlanKind Refusal) (bytes : List ℕ) → StandsAt at (λ (p : Field). p.place) (with_kind made at bytes)
kind_stands at (Ok k) bytes = record { ok = λ x e. cc; err = λ e f. absurd (differ f) }
kind_stands at (Err why) bytes = record { ok = λ x e. absurd (differ (sym e)); err = λ e f. cc }

missing : (at : ℕ) → StandsAt at (λ (p : Field). p.place) (refused Truncated at)
missing at = record { ok = λ x e. absurd (differ (sym e)); err = λ e f. cc }

prefix_stands : (text : List ℕ) (at : ℕ) (pre : Option (ℕ × ℕ)) → StandsAt at (λ (p : Field). p.place) (with_prefix plan_kind text at pre)
prefix_stands text at None = missing at
prefix_stands text at (Some pre) = kind_stands at (with_payload plan_kind pre.0 pre.1 (length text - (at + 3))) (take pre.1 (drop (at + 3) text))

pub stands : (text : List ℕ) (at : ℕ) → StandsAt at (λ (p : Field). p.place) (plan_field text at)
unfolding field_at
stands text at = prefix_stands text at (prefix_at text at)

-- ---- one turn of the reading

turn : ℕ → List ℕ → ℕ → List Field → Field → Result Reading Fault
turn k text at ps p = decided (fault ps p) (is_end p.kind) at (record { load = load_in ps; read = next_at (Ok p) at }) (read_from k text (next_at (Ok p) at) (ps ++ (p ∷ [])))

turned : (k : ℕ) (text : List ℕ) (at : ℕ) (ps : List Field) (r : Result Field Fault) → plan_field text at ≡ r → read_from (suc k) text at ps ≡ asked r (turn k text at ps)
unfolding read_from turn
turned k text at ps r is = ap (λ (x : Result Field Fault). asked x (turn k text at ps)) is

pub stops : (k : ℕ) (text : List ℕ) (at : ℕ) (ps : List Field) (e : Fault) → length text ≤ k + at → plan_field text at ≡ Err e → read_from k text at ps ≡ Err e
unfolding read_from
stops zero text at ps e h is = ap Err (let n = nothing_left text at (omega arith) in cc)
stops (suc k) text at ps e h is = turned k text at ps (Err e) is

some_left : (text : List ℕ) (at : ℕ) (p : Field) → length text ≤ zero + at → plan_field text at ≡ Ok p → ⊥
some_left text at p h is = differ (sym is ∙ nothing_left text at (omega arith))

pub faulty : (k : ℕ) (text : List ℕ) (at : ℕ) (ps : List Field) (p : Field) (why : Refusal) → length text ≤ k + at → plan_field text at ≡ Ok p → fault ps p ≡ Some why → read_from k text at ps ≡ refused why at
unfolding turn
faulty zero text at ps p why h is f = absurd (some_left text at p h is)
faulty (suc k) text at ps p why h is f =
    turned k text at ps (Ok p) is ∙ ap (λ (o : Option Refusal). decided o (is_end p.kind) at (record { load = load_in ps; read = next_at (Ok p) at }) (read_from k text (next_at (Ok p) at) (ps ++ (p ∷ [])))) f

by_end : (k : ℕ) (text : List ℕ) (at : ℕ) (ps : List Field) (p : Field) (b : Bool) → fault ps p ≡ None → is_end p.kind ≡ b
    → turn k text at ps p ≡ decided None b at (record { load = load_in ps; read = next_at (Ok p) at }) (read_from k text (next_at (Ok p) at) (ps ++ (p ∷ [])))
unfolding turn
by_end k text at ps p b f e =
    ap (λ (o : Option Refusal). decided o (is_end p.kind) at (record { load = load_in ps; read = next_at (Ok p) at }) (read_from k text (next_at (Ok p) at) (ps ++ (p ∷ [])))) f
    ∙ ap (λ (t : Bool). decided None t at (record { load = load_in ps; read = next_at (Ok p) at }) (read_from k text (next_at (Ok p) at) (ps ++ (p ∷ [])))) e

pub ended : (k : ℕ) (text : List ℕ) (at : ℕ) (ps : List Field) (p : Field) → length text ≤ k + at → plan_field text at ≡ Ok p → fault ps p ≡ None → is_end p.kind ≡ true
    → read_from k text at ps ≡ Ok (record { load = load_in ps; read = next_at (Ok p) at })
ended zero text at ps p h is f e = absurd (some_left text at p h is)
ended (suc k) text at ps p h is f e = turned k text at ps (Ok p) is ∙ by_end k text at ps p true f e

pub goes_at : (k : ℕ) (text : List ℕ) (at : ℕ) (ps : List Field) (p : Field) → plan_field text at ≡ Ok p → fault ps p ≡ None → is_end p.kind ≡ false
    → read_from (suc k) text at ps ≡ read_from k text (next_at (Ok p) at) (ps ++ (p ∷ []))
goes_at k text at ps p is f e = turned k text at ps (Ok p) is ∙ by_end k text at ps p false f e

pub goes_on : (k : ℕ) (text : List ℕ) (at : ℕ) (ps : List Field) (p : Field) → length text ≤ k + at → plan_field text at ≡ Ok p → fault ps p ≡ None → is_end p.kind ≡ false
    → (j : ℕ) × (length text ≤ j + next_at (Ok p) at) × (read_from k text at ps ≡ read_from j text (next_at (Ok p) at) (ps ++ (p ∷ [])))
goes_on zero text at ps p h is f e = absurd (some_left text at p h is)
goes_on (suc k) text at ps p h is f e = (k, omega arith, goes_at k text at ps p is f e)

-- ---- the draft that holds its fields means what they say

module _ (d : Draft) (ps : List Field) (h : Holds d ps) where
  open_same : (g q : ℕ) (a b : Bool) → (T a → g < d.plan.gates) → (T b → q < d.plan.width) → (a && (b && get_or (get_or d.plan.starts g []) q false)) ≡ (a && (b && opens ps g q))
  open_same g q true true lg lq =
      let lg' = lg tt in
      let lq' = lq tt in
      let few = d.plan.few_gates in
      let low = d.plan.few_positions in
      h.starts g q (omega arith) (omega arith)
  open_same g q true false lg lq = refl
  open_same g q false b lg lq = refl

  start_same : (g q : ℕ) → (load_of d.plan).start g q ≡ (ltb g (size_in ps).gates && (ltb q (size_in ps).width && opens ps g q))
  start_same g q =
      open_same g q (ltb g d.plan.gates) (ltb q d.plan.width) (λ t. ltb→lt g d.plan.gates t) (λ t. ltb→lt q d.plan.width t)
      ∙ (ap (λ (n : ℕ). ltb g n && (ltb q d.plan.width && opens ps g q)) h.gates
      ∙ ap (λ (w : ℕ). ltb g (size_in ps).gates && (ltb q w && opens ps g q)) h.width)

  pub held_load : load_of d.plan ≡ load_in ps
  unfolding load_in
  held_load = λ i. record {
    plan = record { gates = h.gates i; width = h.width i; rules = h.rules i };
    start = fun_ext (λ g. fun_ext (λ q. start_same g q)) i;
  }

-- ---- the first field

first_fault : (p : Field) → fault [] p ≡ verdict (not (is_head p.kind)) (is_none (head_of p.bytes)) false
unfolding fault
first_fault p = go p.kind
  where
    go : (k : PlanKind) → verdict (not (is_head k)) (unfit_by (size_in []) k p.bytes) (full_by k (length (rules_in []))) ≡ verdict (not (is_head k)) (is_none (head_of p.bytes)) false
    go Head = refl
    go Positions = refl
    go (Rule k) = refl
    go End = refl

pub first_verdict : (p : Field) (b : Bool) (o : Option Size) → b ≡ is_head p.kind → o ≡ head_of p.bytes → fault [] p ≡ verdict (not b) (is_none o) false
first_verdict p b o e f =
    first_fault p ∙ (ap (λ (t : Bool). verdict (not t) (is_none (head_of p.bytes)) false) (sym e) ∙ ap (λ (x : Option Size). verdict (not b) (is_none x) false) (sym f))

head_goes_on : (k : PlanKind) → is_head k ≡ true → is_end k ≡ false
head_goes_on Head e = refl
head_goes_on Positions e = refl
head_goes_on (Rule k) e = refl
head_goes_on End e = sym e

pub is_head_kind : (k : PlanKind) → is_head k ≡ true → k ≡ Head
is_head_kind Head e = refl
is_head_kind Positions e = let z : ◌≡◌ {A = ℕ} 0 1 = cc in absurd (omega arith)
is_head_kind (Rule k) e = let z : ◌≡◌ {A = ℕ} 0 1 = cc in absurd (omega arith)
is_head_kind End e = let z : ◌≡◌ {A = ℕ} 0 1 = cc in absurd (omega arith)

pub begins : (text : List ℕ) (p : Field) (d : Draft) (to : ℕ) → plan_field text 0 ≡ Ok p → is_head p.kind ≡ true → fault [] p ≡ None → Holds d (p ∷ []) → to ≡ next_at (Ok p) 0 → Underway text to d
begins text p d to is e f h at =
    let g = goes_on (length text) text 0 [] p (omega arith) is f (head_goes_on p.kind e) in
    record { fields = p ∷ []; turns = g.0; held = h; enough = omega (arith, g.1); same = ap (λ (a : ℕ). read_from g.0 text a (p ∷ [])) at ∙ sym g.2 }

pub no_field : (text : List ℕ) (e : Fault) → plan_field text 0 ≡ Err e → Err e ≡ plan_text text
no_field text e is = sym (stops (length text) text 0 [] e (omega arith) is)

fault_at : (e : Fault) (why : Refusal) (at : ℕ) → e.refusal ≡ why → e.place ≡ at → ◌≡◌ {A = Result Reading Fault} (Err e) (refused why at)
fault_at e why at a b = λ i. Err (record { refusal = a i; place = b i })

pub bad_first : (text : List ℕ) (p : Field) (e : Fault) → plan_field text 0 ≡ Ok p → fault [] p ≡ Some e.refusal → e.place ≡ p.place → Err e ≡ plan_text text
bad_first text p e is f at =
    fault_at e e.refusal 0 refl (at ∙ (stands text 0).ok p is) ∙ sym (faulty (length text) text 0 [] p e.refusal (omega arith) is f)

pub refused_begun : (text : List ℕ) (at : ℕ) (e : Fault) (r : Result Draft Fault) → r ≡ Err e → Err e ≡ plan_text text → Begun text at r
refused_begun text at e r is f = subst (λ (x : Result Draft Fault). Begun text at x) (sym is) f

-- ---- a field more

module _ (text : List ℕ) (at : ℕ) (d : Draft) (u : Underway text at d) where
  pub refuses : (e : Fault) → plan_field text at ≡ Err e → Err e ≡ plan_text text
  refuses e is = sym (stops u.turns text at u.fields e u.enough is) ∙ u.same

  module _ (p : Field) (is : plan_field text at ≡ Ok p) where
    pub takes : (next : Draft) (to : ℕ) → to ≡ next_at (Ok p) at → is_end p.kind ≡ false → Took next u.fields p (Ok tt) → Underway text to next
    takes next to go more (f, h) =
        let g = goes_on u.turns text at u.fields p u.enough is f more in
        record {
          fields = u.fields ++ (p ∷ []);
          turns = g.0;
          held = subst (λ (b : Bool). Holds next (cond b u.fields (u.fields ++ (p ∷ [])))) more h;
          enough = omega (arith, g.1);
          same = ap (λ (a : ℕ). read_from g.0 text a (u.fields ++ (p ∷ []))) go ∙ (sym g.2 ∙ u.same);
        }

    pub finishes : (next : Draft) (to : ℕ) → to ≡ next_at (Ok p) at → is_end p.kind ≡ true → Took next u.fields p (Ok tt) → Ok (record { load = load_of next.plan; read = to }) ≡ plan_text text
    finishes next to go end (f, h) =
        ap (λ (l : Load). Ok (record { load = l; read = to })) (held_load next u.fields (subst (λ (b : Bool). Holds next (cond b u.fields (u.fields ++ (p ∷ [])))) end h))
        ∙ (ap (λ (a : ℕ). Ok (record { load = load_in u.fields; read = a })) go
        ∙ (sym (ended u.turns text at u.fields p u.enough is f end) ∙ u.same))

    pub fails : (next : Draft) (e : Fault) → Took next u.fields p (Err e) → Err e ≡ plan_text text
    fails next e (f, place) =
        fault_at e e.refusal at refl (place ∙ (stands text at).ok p is) ∙ (sym (faulty u.turns text at u.fields p e.refusal u.enough is f) ∙ u.same)
