-- One call field more.
use Rattle.std.proofs.Common.{◌≡◌, ℕ, ◌+◌, ◌-◌, ◌≤◌, Bool, true, false, cond, ltb, List, ◌++◌, length, take, drop, Some, None, Ok, Err, Option, Result, sym, refl, ap, ◌∙◌, subst, inl, inr, ⊎_elim, arith, length-drop}
use Rattle.std.proofs.lemmas.List.{append_assoc, length-take-le}
use Rattle.std.proofs.lemmas.Bool.{ltb-false}
use Rattle.model.specs.declared.refusal.Refusal.{Refusal}
use Rattle.model.specs.declared.refusal.Refusal.TheVariants.{Truncated, UnknownTag, BadLength}
use Rattle.model.specs.Plans.{Plan}
use Rattle.model.specs.Calls.{Call}
use Rattle.model.specs.Planners.{Planner}
use Rattle.model.specs.Answers.{Answer, numbers}
use Rattle.planner.specs.States.{Made}
use Rattle.text.specs.Fields.{Part, field_at, next_at, prefix_at, with_prefix, with_kind}
use Rattle.console_calls.specs.declared.call.CallKind.{CallKind}
use Rattle.console_calls.specs.Calls.{named, allows, call_kind, call_of, word_of}
use Rattle.console_calls.specs.Lines.{told_line, denied_line}
use Rattle.console_calls.specs.Making.{Lined}
use Rattle.console_calls.proofs.Printing.{fails}
use Rattle.console_calls.specs.Sessions.{IsCall, Goes, told, denied}

-- a field of a call has a length that its kind allows
kind_allowed : (tag len : ℕ) (k : CallKind) → call_kind tag len ≡ Ok k → allows k len ≡ true
kind_allowed tag len k e = go (named tag) e
  where
    one : (j : CallKind) (b : Bool) → allows j len ≡ b → ◌≡◌ {A = Result CallKind Refusal} (cond b (Ok j) (Err BadLength)) (Ok k) → allows k len ≡ true
    one j true a e = let z : j ≡ k = cc in ap (λ (x : CallKind). allows x len) (sym z) ∙ a
    one j false a e = fails k BadLength (sym e)

    go : (o : Option CallKind) → ◌≡◌ {A = Result CallKind Refusal} (elim o [ Some j ↦ cond (allows j len) (Ok j) (Err BadLength) | None ↦ Err UnknownTag ]) (Ok k) → allows k len ≡ true
    go None e = fails k UnknownTag (sym e)
    go (Some j) e = one j (allows j len) refl e

whole : (text : List ℕ) (from len : ℕ) → len ≤ length text - from → length (take len (drop from text)) ≡ len
whole text from len h = length-take-le len (drop from text) (omega (arith, length-drop from text))

pub allowed : (input : List ℕ) (at : ℕ) (p : Part CallKind) → IsCall input at p → allows p.kind (length p.bytes) ≡ true
unfolding field_at
allowed input at p e = go (prefix_at input at) e
  where
    kinded : (r : Result CallKind Refusal) (len : ℕ) → (call-kind' : (k : CallKind) → r ≡ Ok k → allows k len ≡ true) → length (take len (drop (at + 3) input)) ≡ len
        → with_kind r at (take len (drop (at + 3) input)) ≡ Ok p → allows p.kind (length p.bytes) ≡ true
    kinded (Ok k) len ok long e =
        let z : record { kind = k; place = at; bytes = take len (drop (at + 3) input) } ≡ p = cc in
        subst (λ (x : Part CallKind). allows x.kind (length x.bytes) ≡ true) z (ap (allows k) long ∙ ok k refl)
    kinded (Err why) len ok long e = fails p (record { refusal = why; place = at }) (sym e)

    payload : (tag len : ℕ) (b : Bool) → ltb (length input - (at + 3)) len ≡ b
        → with_kind (cond b (Err Truncated) (call_kind tag len)) at (take len (drop (at + 3) input)) ≡ Ok p → allows p.kind (length p.bytes) ≡ true
    payload tag len true a e = fails p (record { refusal = Truncated; place = at }) (sym e)
    payload tag len false a e = kinded (call_kind tag len) len (kind_allowed tag len) (whole input (at + 3) len (ltb-false (length input - (at + 3)) len a)) e

    go : (o : Option (ℕ × ℕ)) → with_prefix call_kind input at o ≡ Ok p → allows p.kind (length p.bytes) ≡ true
    go None e = fails p (record { refusal = Truncated; place = at }) (sym e)
    go (Some pre) e = payload pre.0 pre.1 (ltb (length input - (at + 3)) pre.1) refl e

-- the line of one call more
pub goes_on : (plan : Plan) (input : List ℕ) (start s e : Planner) (from at : ℕ) (out line : List ℕ) (p : Part CallKind)
    → Goes plan input start from s at out → IsCall input at p → Lined plan (call_of p.kind p.bytes) (word_of p.kind) s e line
    → Goes plan input start from e (next_at (Ok p) at) (out ++ line)
goes_on plan input start s e from at out line p goes is lined =
    ⊎_elim
    (λ a. subst (λ (l : List ℕ). Goes plan input start from e (next_at (Ok p) at) (out ++ l)) (sym a.4) (told p a.0 goes is a.1 a.2 a.3))
    (λ d. subst (λ (l : List ℕ). Goes plan input start from e (next_at (Ok p) at) (out ++ l)) (sym d.3)
    (subst (λ (x : Planner). Goes plan input start from x (next_at (Ok p) at) (out ++ denied_line (word_of p.kind) d.0)) (sym d.2) (denied p d.0 goes is d.1)))
    lined

-- two things added, one behind the other
pub adds_both : (before mid after out line : List ℕ) → mid ≡ before ++ out → after ≡ mid ++ line → after ≡ before ++ (out ++ line)
adds_both before mid after out line a b = b ∙ ap (λ (xs : List ℕ). xs ++ line) a ∙ append_assoc before out line

-- the line of an accepted call, and of a refused one
pub told_made : (plan : Plan) (s e : Planner) (c : Call) (word : List ℕ) (n : ℕ) (list line : List ℕ)
    → Made plan s c (λ k. numbers (take k list)) (Ok n) e → line ≡ told_line word (take n list) → Lined plan c word s e line
told_made plan s e c word n list line m is = inl (take n list, m.0, m.1, m.2, is)

pub denied_made : {A : Type 0} (plan : Plan) (s e : Planner) (c : Call) (word : List ℕ) (tell : A → Answer) (k : Refusal) (line : List ℕ)
    → Made plan s c tell (Err k) e → line ≡ denied_line word k → Lined plan c word s e line
denied_made plan s e c word tell k line m is = inr (k, m.0, m.1, is)
