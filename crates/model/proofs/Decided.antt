-- Small cases by trying them all.
use Rattle.std.proofs.Common.{◌≡◌, ℕ, zero, suc, ◌<◌, Bool, true, false, not, ◌&&◌, ◌||◌, T, eqb, ltb, leb, ◌⊎◌, List, [], ◌∷◌, length, pos, ◌+ℤ◌, Some, None, sym, refl, subst, ap₂, inl, inr, ⊎_elim, arith, le→leb, eqb→eq, ltb→lt, leb→le}
use mathlib.Core.List.Memᴰ
use native.Mathlib.Nat.{suc_inj}
use Rattle.model.specs.Families.{Family, Inside, has, ◌∈◌}
use Rattle.model.specs.Rules.{Rule, offset, near, not_above, total, Meets, shares}
use Rattle.model.specs.Settled.{Largest}
use Rattle.model.specs.Plans.{Plan}
use Rattle.model.specs.Settings.{at, Permitted, Before, First}
use Rattle.model.specs.Calls.{strike, keep}
use Rattle.model.specs.Ledgers.{narrowed}
use Rattle.model.specs.Trials.{worked, rows, worked_settled, Trials}
use Rattle.model.proofs.Tests.{both, left, right, taken, one_of}
use Rattle.model.proofs.Sieve.{offset_test, near_test, not_above_test, near_sound, near_complete, same_sound, same_complete}
use Rattle.model.proofs.Settles.{all_support, sieved, sieved_contains, unsieved_settled, last_or_before}

-- the test holds of each number below n
abbrev each : ℕ → (ℕ → Bool) → Bool
each zero t = true
each (suc n) t = t n && each n t

each_is : (n : ℕ) (t : ℕ → Bool) → T (each n t) → (k : ℕ) → k < n → T (t k)
each_is zero t h k l = absurd (omega arith)
each_is (suc n) t h k l =
    ⊎_elim {C = T (t k)}
    (λ (e : k ≡ n). subst (λ (j : ℕ). T (t j)) (sym e) (left (t n) (each n t) h))
    (λ (x : k < n). each_is n t (right (t n) (each n t) h) k x)
    (last_or_before k n l)

abbrev Box : ℕ → ℕ → Family → Type 0
Box n w f = (g p : ℕ) → T (f g p) → (g < n) × (p < w)

-- what is open in the first is open in the second, tried at each cell
abbrev inside_test : ℕ → ℕ → Family → Family → Bool
inside_test n w f d = each n (λ g. each w (λ p. not (f g p) || d g p))

inside_tried : (n w : ℕ) (f d : Family) → Box n w f → T (inside_test n w f d) → Inside f d
inside_tried n w f d b h g p t =
    taken (f g p) (d g p) (each_is w (λ q. not (f g q) || d g q) (each_is n (λ k. each w (λ q. not (f k q) || d k q)) h g (b g p t).0) p (b g p t).1) t

-- a family that one sieving leads to, and that no sieving makes smaller
pub largest_tried : (n w : ℕ) (rules : List Rule) (d f : Family) → Box n w d → Box n w f
    → T (inside_test n w f d) → T (inside_test n w (sieved w rules d) f) → T (inside_test n w f (λ g p. all_support w f rules g p))
    → Largest rules d f
largest_tried n w rules d f bd bf a b c =
    record {
      inside = inside_tried n w f d bf a;
      settled = unsieved_settled w rules f (λ g p t. (bf g p t).1) (inside_tried n w f (λ g p. all_support w f rules g p) bf c);
      contains = λ e sub s g p t.
          inside_tried n w (sieved w rules d) f (λ k q u. bd k q (left (d k q) (all_support w d rules k q) u)) b g p
          (sieved_contains w rules d e (λ k q u. (bd k q u).1) s sub g p t);
    }

-- ---- settings

abbrev meets_test : (ℕ → ℕ) → Rule → Bool
meets_test a (offset x y c) = offset_test c (a x) (a y)
meets_test a (near x y d) = near_test d (a x) (a y)
meets_test a (not_above x y c) = not_above_test c (a x) (a y)
meets_test a (total low high ms) = leb low (shares ms a) && leb (shares ms a) high

meets_is : (a : ℕ → ℕ) (r : Rule) → T (meets_test a r) → Meets a r
meets_is a (offset x y c) t = same_sound (pos (a x)) (pos (a y) +ℤ c) t
meets_is a (near x y d) t = near_sound d (a x) (a y) t
meets_is a (not_above x y c) t = record { le = t }
meets_is a (total low high ms) t =
    (leb→le low (shares ms a) (left (leb low (shares ms a)) (leb (shares ms a) high) t), leb→le (shares ms a) high (right (leb low (shares ms a)) (leb (shares ms a) high) t))

meets_of : (a : ℕ → ℕ) (r : Rule) → Meets a r → T (meets_test a r)
meets_of a (offset x y c) h = same_complete (pos (a x)) (pos (a y) +ℤ c) h
meets_of a (near x y d) h = near_complete d (a x) (a y) h
meets_of a (not_above x y c) h = h.le
meets_of a (total low high ms) h = both (leb low (shares ms a)) (leb (shares ms a) high) (le→leb low (shares ms a) h.0) (le→leb (shares ms a) high h.1)

abbrev all_met : List Rule → (ℕ → ℕ) → Bool
all_met [] a = true
all_met (r ∷ rs) a = meets_test a r && all_met rs a

all_met_is : (rs : List Rule) (a : ℕ → ℕ) → T (all_met rs a) → (r : Rule) → r ∈ rs → Meets a r
all_met_is [] a h r i = elim i [ ]
all_met_is (k ∷ rs) a h r (Memᴰ.head e) = subst (Meets a) (sym e) (meets_is a k (left (meets_test a k) (all_met rs a) h))
all_met_is (k ∷ rs) a h r (Memᴰ.tail i) = all_met_is rs a (right (meets_test a k) (all_met rs a) h) r i

all_met_of : (rs : List Rule) (a : ℕ → ℕ) → ((r : Rule) → r ∈ rs → Meets a r) → T (all_met rs a)
all_met_of [] a h = tt
all_met_of (k ∷ rs) a h =
    both (meets_test a k) (all_met rs a) (meets_of a k (h k (Memᴰ.head refl))) (all_met_of rs a (λ r i. h r (Memᴰ.tail i)))

-- the test holds of each list of n numbers below w
abbrev each_list : ℕ → ℕ → (List ℕ → Bool) → Bool
each_list zero w t = t []
each_list (suc n) w t = each w (λ a. each_list n w (λ xs. t (a ∷ xs)))

each_list_is : (n w : ℕ) (t : List ℕ → Bool) → T (each_list n w t) → (xs : List ℕ) → length xs ≡ n → ((g : ℕ) → g < n → at xs g < w) → T (t xs)
each_list_is zero w t h [] e b = h
each_list_is zero w t h (x ∷ xs) e b = absurd (omega arith)
each_list_is (suc n) w t h [] e b = absurd (omega arith)
each_list_is (suc n) w t h (x ∷ xs) e b =
    each_list_is n w (λ ys. t (x ∷ ys)) (each_is w (λ a. each_list n w (λ ys. t (a ∷ ys))) h x (b 0 (omega arith))) xs (suc_inj e)
    (λ g l. b (suc g) (omega arith))

abbrev within_test : ℕ → Family → List ℕ → Bool
within_test n f setting = each n (λ g. f g (at setting g))

each_of : (n : ℕ) (t : ℕ → Bool) → ((k : ℕ) → k < n → T (t k)) → T (each n t)
each_of zero t h = tt
each_of (suc n) t h = both (t n) (each n t) (h n (omega arith)) (each_of n t (λ k l. h k (omega arith)))

abbrev permitted_test : Plan → Family → List ℕ → Bool
permitted_test plan f setting = within_test plan.gates f setting && all_met plan.rules (at setting)

permitted_of : (plan : Plan) (f : Family) (setting : List ℕ) → Permitted plan f setting → T (permitted_test plan f setting)
permitted_of plan f setting h =
    both (within_test plan.gates f setting) (all_met plan.rules (at setting))
    (each_of plan.gates (λ g. f g (at setting g)) h.within) (all_met_of plan.rules (at setting) h.meets)

permitted_is : (plan : Plan) (f : Family) (setting : List ℕ) → length setting ≡ plan.gates → T (permitted_test plan f setting) → Permitted plan f setting
permitted_is plan f setting e h =
    record {
      whole = e;
      within = each_is plan.gates (λ g. f g (at setting g)) (left (within_test plan.gates f setting) (all_met plan.rules (at setting)) h);
      meets = all_met_is plan.rules (at setting) (right (within_test plan.gates f setting) (all_met plan.rules (at setting)) h);
    }

-- the same, or before
abbrev first_test : List ℕ → List ℕ → Bool
first_test [] [] = true
first_test [] (y ∷ ys) = false
first_test (x ∷ xs) [] = false
first_test (x ∷ xs) (y ∷ ys) = ltb x y || (eqb x y && first_test xs ys)

first_is : (xs ys : List ℕ) → T (first_test xs ys) → (xs ≡ ys) ⊎ Before xs ys
first_is [] [] h = inl refl
first_is [] (y ∷ ys) h = absurd h
first_is (x ∷ xs) [] h = absurd h
first_is (x ∷ xs) (y ∷ ys) h =
    ⊎_elim {C = ((x ∷ xs) ≡ (y ∷ ys)) ⊎ Before (x ∷ xs) (y ∷ ys)}
    (λ (t : T (ltb x y)). inr (inl (ltb→lt x y t)))
    (λ (t : T (eqb x y && first_test xs ys)). more (eqb→eq x y (left (eqb x y) (first_test xs ys) t)) (first_is xs ys (right (eqb x y) (first_test xs ys) t)))
    (one_of (ltb x y) (eqb x y && first_test xs ys) h)
  where
    more : x ≡ y → (xs ≡ ys) ⊎ Before xs ys → ((x ∷ xs) ≡ (y ∷ ys)) ⊎ Before (x ∷ xs) (y ∷ ys)
    more e (inl k) = inl (ap₂ {C = List ℕ} (λ (a : ℕ) (as' : List ℕ). a ∷ as') e k)
    more e (inr k) = inr (inr (e, k))

pub first_tried : (plan : Plan) (f : Family) (setting : List ℕ) → Box plan.gates plan.width f → length setting ≡ plan.gates → T (permitted_test plan f setting)
    → T (each_list plan.gates plan.width (λ xs. not (permitted_test plan f xs) || first_test setting xs)) → First (Permitted plan f) (Some setting)
first_tried plan f setting box e h all = (
  permitted_is plan f setting e h,
  λ other ok. first_is setting other
      (taken (permitted_test plan f other) (first_test setting other)
      (each_list_is plan.gates plan.width (λ xs. not (permitted_test plan f xs) || first_test setting xs) all other ok.whole
      (λ g l. (box g (at other g) (ok.within g l)).1))
      (permitted_of plan f other ok)),
)

pub none_tried : (plan : Plan) (f : Family) → Box plan.gates plan.width f
    → T (each_list plan.gates plan.width (λ xs. not (permitted_test plan f xs) || false)) → First (Permitted plan f) None
none_tried plan f box all other ok =
    taken (permitted_test plan f other) false
    (each_list_is plan.gates plan.width (λ xs. not (permitted_test plan f xs) || false) all other ok.whole
    (λ g l. (box g (at other g) (ok.within g l)).1))
    (permitted_of plan f other ok)

-- ---- the trials

abbrev all_under : ℕ → List ℕ → Bool
all_under w [] = true
all_under w (p ∷ ps) = ltb p w && all_under w ps

under_is : (w : ℕ) (ps : List ℕ) → T (all_under w ps) → (p : ℕ) → T (has ps p) → p < w
under_is w [] h p t = absurd t
under_is w (q ∷ ps) h p t =
    ⊎_elim {C = p < w}
    (λ (e : T (eqb p q)). subst (λ (k : ℕ). k < w) (sym (eqb→eq p q e)) (ltb→lt q w (left (ltb q w) (all_under w ps) h)))
    (λ (u : T (has ps p)). under_is w ps (right (ltb q w) (all_under w ps) h) p u)
    (one_of (eqb p q) (has ps p) t)

abbrev rows_under : ℕ → List (List ℕ) → Bool
rows_under w [] = true
rows_under w (ps ∷ ls) = all_under w ps && rows_under w ls

rows_box : (w : ℕ) (ls : List (List ℕ)) → T (rows_under w ls) → (g p : ℕ) → T (rows ls g p) → (g < length ls) × (p < w)
rows_box w [] h g p t = absurd t
rows_box w (ps ∷ ls) h zero p t = (omega arith, under_is w ps (left (all_under w ps) (rows_under w ls) h) p t)
rows_box w (ps ∷ ls) h (suc g) p t = let r = rows_box w ls (right (all_under w ps) (rows_under w ls) h) g p t in let a = r.0 in (omega arith, r.1)

start_box : Box 3 5 worked.start
start_box g p t = (ltb→lt g 3 (left (ltb g 3) (ltb p 5) t), ltb→lt p 5 (right (ltb g 3) (ltb p 5) t))

settled_box : Box 3 5 worked_settled
settled_box g p t = rows_box 5 ((0 ∷ 1 ∷ 2 ∷ 3 ∷ []) ∷ (1 ∷ 2 ∷ 3 ∷ 4 ∷ []) ∷ (0 ∷ 1 ∷ 2 ∷ 3 ∷ []) ∷ []) tt g p t

pub trials : Trials
trials =
    record {
      below = record { le = tt };
      not_level = λ h. h.le;
      settle = largest_tried 3 5 worked.plan.rules worked.start worked_settled start_box settled_box tt tt tt;
      solve = first_tried worked.plan worked_settled (1 ∷ 2 ∷ 2 ∷ []) settled_box refl tt tt;
      solve_struck = none_tried worked.plan (narrowed (strike 2 2) worked_settled) (λ g p t. settled_box g p (left (worked_settled g p) _ t)) tt;
      dead = largest_tried 3 5 worked.plan.rules (narrowed (keep 2 []) worked.start) (rows [])
          (λ g p t. start_box g p (left (worked.start g p) _ t)) (λ g p t. absurd t) tt tt tt;
    }
