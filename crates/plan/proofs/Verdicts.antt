-- The fault of a field, by the row of the table that applies first.
use Rattle.std.proofs.Common.{◌≡◌, ℕ, ◌<◌, Bool, true, false, cond, List, [], ◌∷◌, ◌++◌, length, Some, None, Ok, Err, Option, Result, sym, refl, ap, ◌∙◌, subst, arith}
use Rattle.std.specs.Option.{is_none}
use Rattle.text.specs.declared.fault.Fault.{Fault}
use Rattle.text.specs.declared.kind.PlanKind.{PlanKind}
use Rattle.plan.specs.Plans.{Field, size_in, rules_in, misplaced, misplaced_by, unfit_by, full_by, verdict, fault, is_end}
use Rattle.plan.specs.declared.draft.Draft.{Draft}
use Rattle.plan.specs.Drafts.{judged, Holds, Took, with_field}

pub differ : {X Y : Type 0} {x : X} {y : Y} → ◌≡◌ {A = Result X Y} (Ok x) (Err y) → ⊥
differ e = let z : ◌≡◌ {A = ℕ} 0 1 = cc in omega arith

pub none_some : {X : Type 0} {x : X} → ◌≡◌ {A = Option X} None (Some x) → ⊥
none_some e = let z : ◌≡◌ {A = ℕ} 0 1 = cc in omega arith

-- an accepted field is well placed, gave something, and had room
pub accepted : {X : Type 0} (place : ℕ) (m : Bool) (x : Option X) (f : Bool) (y : X) → Ok y ≡ judged place m x f → (m ≡ false) × (x ≡ Some y) × (f ≡ false)
accepted place true x f y e = absurd (differ e)
accepted place false None f y e = absurd (differ e)
accepted place false (Some z) true y e = absurd (differ e)
accepted place false (Some z) false y e = (refl, cc, refl)

-- a refused one has the verdict's fault, at its place
pub refused_by : {X : Type 0} (place : ℕ) (m : Bool) (x : Option X) (f : Bool) (e : Fault) → Err e ≡ judged place m x f → (verdict m (is_none x) f ≡ Some e.refusal) × (e.place ≡ place)
refused_by place true x f e h = (cc, cc)
refused_by place false None f e h = (cc, cc)
refused_by place false (Some z) true e h = (cc, cc)
refused_by place false (Some z) false e h = absurd (differ (sym h))

behind_first : (ps : List Field) (p : Field) → 0 < length ps → misplaced ps p ≡ misplaced_by ps p.kind p.bytes
behind_first [] p h = absurd (omega arith)
behind_first (q ∷ ps) p h = refl

-- the fault of a field behind the first
pub fault_is : (ps : List Field) (p : Field) (m u f : Bool) → 0 < length ps → misplaced_by ps p.kind p.bytes ≡ m
    → unfit_by (size_in ps) p.kind p.bytes ≡ u → full_by p.kind (length (rules_in ps)) ≡ f → fault ps p ≡ verdict m u f
unfolding fault
fault_is ps p m u f some a b c =
    ap (λ (t : Bool). verdict t (unfit_by (size_in ps) p.kind p.bytes) (full_by p.kind (length (rules_in ps)))) (behind_first ps p some ∙ a)
    ∙ (ap (λ (t : Bool). verdict m t (full_by p.kind (length (rules_in ps)))) b ∙ ap (verdict m u) c)

-- the fields that a draft holds, where the kind of the last is known
pub held_with : (d : Draft) (ps : List Field) (p : Field) (kind : PlanKind) → p.kind ≡ kind → Holds d (cond (is_end kind) ps (ps ++ (p ∷ []))) → Holds d (with_field ps p)
held_with d ps p kind e h = subst (λ (k : PlanKind). Holds d (cond (is_end k) ps (ps ++ (p ∷ [])))) (sym e) h

-- a refused field leaves the draft as it was, with its fault
pub refused_took : (d : Draft) (ps : List Field) (p : Field) {X : Type 0} (m : Bool) (x : Option X) (f : Bool) (e : Fault) (r : Result Unit Fault)
    → Err e ≡ judged p.place m x f → fault ps p ≡ verdict m (is_none x) f → r ≡ Err e → Took d ps p r
refused_took d ps p m x f e r j v is =
    let w = refused_by p.place m x f e j in
    subst (λ (s : Result Unit Fault). Took d ps p s) (sym is) (v ∙ w.0, w.1)

-- an accepted one has none
pub no_fault : (ps : List Field) (p : Field) {X : Type 0} (m : Bool) (x : Option X) (f : Bool) (y : X) → Ok y ≡ judged p.place m x f → fault ps p ≡ verdict m (is_none x) f → fault ps p ≡ None
no_fault ps p m x f y j v =
    let a = accepted p.place m x f y j in
    v ∙ (ap (λ (t : Bool). verdict t (is_none x) f) a.0 ∙ (ap (λ (o : Option _). verdict false (is_none o) f) a.1 ∙ ap (verdict false false) a.2))
