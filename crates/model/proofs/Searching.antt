-- For a solve that tries positions in order: which step keeps the answer, and when a setting is found or there is none.
use Rattle.std.proofs.Common.{◌≡◌, ℕ, zero, suc, ◌<◌, ◌≤◌, ◌&&◌, T, eqb, ◌⊎◌, List, [], ◌∷◌, length, Some, None, Option, sym, refl, ap, ◌∙◌, subst, inl, inr, arith, eqb→eq}
use lib.Dec.{eqb_refl}
use Rattle.model.specs.Families.{Family, Inside}
use Rattle.model.specs.Rules.{Rule, offset, near, not_above, total, Meets, OffsetAdmits, NearAdmits, NotAboveAdmits}
use Rattle.model.specs.Settled.{Partnered, Least, instead, SettledUnder, Settled, Largest}
use Rattle.model.specs.Plans.{Plan, NamesBelow, WellNamed}
use Rattle.model.specs.Settings.{at, Permitted, Before, First}
use Rattle.model.specs.Calls.{strike, bind, leaves}
use Rattle.model.specs.Ledgers.{narrowed}
use Rattle.model.proofs.Tests.{both, left, right, given, taken, denied, eqb_of, decided}
use Rattle.model.proofs.Settling.{shares_agree, instead_agrees, keeps_settings}
use Rattle.model.proofs.Firsts.{firsts_agree}

permitted_inside : (plan : Plan) (d f : Family) (setting : List ℕ) → Inside d f → Permitted plan d setting → Permitted plan f setting
permitted_inside plan d f setting sub ok =
    record { whole = ok.whole; within = λ g l. sub g (at setting g) (ok.within g l); meets = ok.meets }

-- settling keeps the answer
pub settles_to : (plan : Plan) (d f : Family) → WellNamed plan → Largest plan.rules d f
    → (a : Option (List ℕ)) → First (Permitted plan f) a → First (Permitted plan d) a
settles_to plan d f named big a h =
    firsts_agree (Permitted plan f) (Permitted plan d) (λ p. (keeps_settings plan d f p named big).1) (λ p. (keeps_settings plan d f p named big).0) a h

-- a gate with no position left
pub no_setting : (plan : Plan) (f : Family) (g : ℕ) → g < plan.gates → ((q : ℕ) → T (f g q) → ⊥) → First (Permitted plan f) None
no_setting plan f g l h setting ok = h (at setting g) (ok.within g l)

module _ (plan : Plan) (f : Family) (k p : ℕ) (below : k < plan.gates) where
  bound_setting : (setting : List ℕ) → Permitted plan f setting → at setting k ≡ p → Permitted plan (narrowed (bind k p) f) setting
  bound_setting setting ok e =
      record {
        whole = ok.whole;
        within = λ g l. both (f g (at setting g)) (leaves (bind k p) g (at setting g)) (ok.within g l)
            (given (eqb g k) (eqb (at setting g) p) (λ t. eqb_of (at setting g) p (ap (at setting) (eqb→eq g k t) ∙ e)));
        meets = ok.meets;
      }

  struck_setting : (setting : List ℕ) → Permitted plan f setting → (at setting k ≡ p → ⊥) → Permitted plan (narrowed (strike k p) f) setting
  struck_setting setting ok ne =
      record {
        whole = ok.whole;
        within = λ g l. both (f g (at setting g)) (leaves (strike k p) g (at setting g)) (ok.within g l)
            (denied (eqb g k && eqb (at setting g) p) (λ t. ne (ap (at setting) (sym (eqb→eq g k (left (eqb g k) (eqb (at setting g) p) t))) ∙ eqb→eq (at setting g) p (right (eqb g k) (eqb (at setting g) p) t))));
        meets = ok.meets;
      }

  bound_inside : Inside (narrowed (bind k p) f) f
  bound_inside g q t = left (f g q) (leaves (bind k p) g q) t

  struck_inside : Inside (narrowed (strike k p) f) f
  struck_inside g q t = left (f g q) (leaves (strike k p) g q) t

  -- no setting has the position there: strike it and go on
  pub skips : First (Permitted plan (narrowed (bind k p) f)) None → (a : Option (List ℕ)) → First (Permitted plan (narrowed (strike k p) f)) a → First (Permitted plan f) a
  skips no' a h =
      firsts_agree (Permitted plan (narrowed (strike k p) f)) (Permitted plan f)
      (λ setting. permitted_inside plan (narrowed (strike k p) f) f setting struck_inside)
      (λ setting ok. struck_setting setting ok (λ e. no' setting (bound_setting setting ok e))) a h

  -- the least position there, with one position at each gate before: the first setting that has it is the first of all
  pub takes : ((g q r : ℕ) → g < k → T (f g q) → T (f g r) → q ≡ r) → Least f k p → (setting : List ℕ)
      → First (Permitted plan (narrowed (bind k p) f)) (Some setting) → First (Permitted plan f) (Some setting)
  takes one least setting h = (found, λ other ok. go other ok (decided (eqb (at other k) p)))
    where
      found : Permitted plan f setting
      found = permitted_inside plan (narrowed (bind k p) f) f setting bound_inside h.0

      has_p : at setting k ≡ p
      has_p = eqb→eq (at setting k) p (taken (eqb k k) (eqb (at setting k) p) (right (f k (at setting k)) (leaves (bind k p) k (at setting k)) (h.0.within k below)) (eqb_refl k))

      before_at : (n : ℕ) (xs ys : List ℕ) → n < length xs → n < length ys → ((g : ℕ) → g < n → at xs g ≡ at ys g) → at xs n < at ys n → Before xs ys
      before_at n [] ys a b same less = absurd (omega arith)
      before_at n (x ∷ xs) [] a b same less = absurd (omega arith)
      before_at zero (x ∷ xs) (y ∷ ys) a b same less = inl less
      before_at (suc n) (x ∷ xs) (y ∷ ys) a b same less =
          inr (same 0 (omega arith), before_at n xs ys (omega arith) (omega arith) (λ g l. same (suc g) (omega arith)) less)

      go : (other : List ℕ) → Permitted plan f other → T (eqb (at other k) p) ⊎ (T (eqb (at other k) p) → ⊥) → (setting ≡ other) ⊎ Before setting other
      go other ok (inl t) = h.1 other (bound_setting other ok (eqb→eq (at other k) p t))
      go other ok (inr ne) =
          let low = least.1 (at other k) (ok.within k below) in
          let d : (at other k ≡ p → ⊥) = λ e. ne (eqb_of (at other k) p e) in
          let e = has_p in
          let a = found.whole in
          let b = ok.whole in
          inr (before_at k setting other (omega arith) (omega arith)
          (λ g l. one g (at setting g) (at other g) l (found.within g (omega arith)) (ok.within g (omega arith)))
          (omega arith))

-- settled domains of one position each are a setting
module _ (plan : Plan) (f : Family) (setting : List ℕ) (named : WellNamed plan) (whole : length setting ≡ plan.gates)
    (single : (g : ℕ) → g < plan.gates → T (f g (at setting g)) × ((q : ℕ) → T (f g q) → q ≡ at setting g)) where
  pair_met : (admits : ℕ → ℕ → Type 0) (x y : ℕ) → x < plan.gates → y < plan.gates → Partnered admits x y f → admits (at setting x) (at setting y)
  pair_met admits x y lx ly h =
      let r = h.of_x (at setting x) (single x lx).0 in
      subst (λ (b : ℕ). admits (at setting x) b) ((single y ly).1 r.0 r.1) r.2

  rule_met : (r : Rule) → NamesBelow plan.gates r → SettledUnder f r → Meets (at setting) r
  rule_met (offset x y c) n h = pair_met (OffsetAdmits c) x y n.0 n.1 h
  rule_met (near x y d) n h = pair_met (NearAdmits d) x y n.0 n.1 h
  rule_met (not_above x y c) n h = pair_met (NotAboveAdmits c) x y n.0 n.1 h
  rule_met (total low high ms) n h =
      let m = n.0.0 in
      let i = n.0.1 in
      let here = (single m.0 (n.1 m i)).0 in
      let same = shares_agree ms (instead (at setting) m.0 (at setting m.0)) (at setting) (λ k j. instead_agrees (at setting) (at setting) m.0 (at setting m.0) k.0 refl refl) in (
        subst (λ (x : ℕ). low ≤ x) same (h.not_under (at setting) (λ k j. ((single k.0 (n.1 k j)).0, λ q t. let e = (single k.0 (n.1 k j)).1 q t in omega arith)) m i (at setting m.0) here),
        subst (λ (x : ℕ). x ≤ high) same (h.not_over (at setting) (λ k j. ((single k.0 (n.1 k j)).0, λ q t. let e = (single k.0 (n.1 k j)).1 q t in omega arith)) m i (at setting m.0) here),
      )

  pub one_each : Settled plan.rules f → Permitted plan f setting
  one_each s = record { whole = whole; within = λ g l. (single g l).0; meets = λ r i. rule_met r (named r i) (s r i) }
