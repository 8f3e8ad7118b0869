-- There is a largest settled family: take out what no rule supports, again and again.
use Rattle.std.proofs.Common.{◌≡◌, ℕ, zero, suc, ◌+◌, ◌<◌, ◌≤◌, Bool, true, false, ◌&&◌, T, eqb, leb, ◌⊎◌, List, [], ◌∷◌, sym, refl, ap, ◌∙◌, subst, inl, inr, le_refl, arith, le→leb, eqb→eq, leb→le}
use mathlib.Core.List.Memᴰ
use Rattle.model.specs.Families.{Family, Inside, ◌∈◌}
use Rattle.model.specs.Rules.{Rule}
use Rattle.model.specs.Settled.{Settled, Largest}
use Rattle.model.specs.Statements.{SomeLargest}
use Rattle.model.proofs.Tests.{both, left, right, families_agree, decided, eqb_of}
use Rattle.model.proofs.Sieve.{supports, settled_supported, supported_settled}

-- each rule supports the position
abbrev pub all_support : ℕ → Family → List Rule → ℕ → ℕ → Bool
all_support w f [] g p = true
all_support w f (r ∷ rs) g p = supports w f r g p && all_support w f rs g p

pub all_support_of : (w : ℕ) (f : Family) (rules : List Rule) (g p : ℕ) → ((r : Rule) → r ∈ rules → T (supports w f r g p)) → T (all_support w f rules g p)
all_support_of w f [] g p h = tt
all_support_of w f (r ∷ rs) g p h =
    both (supports w f r g p) (all_support w f rs g p) (h r (Memᴰ.head refl)) (all_support_of w f rs g p (λ k i. h k (Memᴰ.tail i)))

pub all_support_is : (w : ℕ) (f : Family) (rules : List Rule) (g p : ℕ) → T (all_support w f rules g p) → (r : Rule) → r ∈ rules → T (supports w f r g p)
all_support_is w f [] g p h r i = elim i [ ]
all_support_is w f (k ∷ rs) g p h r (Memᴰ.head e) =
    subst (λ (x : Rule). T (supports w f x g p)) (sym e) (left (supports w f k g p) (all_support w f rs g p) h)
all_support_is w f (k ∷ rs) g p h r (Memᴰ.tail i) = all_support_is w f rs g p (right (supports w f k g p) (all_support w f rs g p) h) r i

abbrev pub Below : ℕ → Family → Type 0
Below w f = (g p : ℕ) → T (f g p) → p < w

abbrev pub sieved : ℕ → List Rule → Family → Family
sieved w rules f g p = f g p && all_support w f rules g p

pub sieved_inside : (w : ℕ) (rules : List Rule) (f : Family) → Inside (sieved w rules f) f
sieved_inside w rules f g p t = left (f g p) (all_support w f rules g p) t

-- what is settled is never sieved out
pub sieved_contains : (w : ℕ) (rules : List Rule) (f e : Family) → Below w f → Settled rules e → Inside e f → Inside e (sieved w rules f)
sieved_contains w rules f e below s sub g p t =
    both (f g p) (all_support w f rules g p) (sub g p t)
    (all_support_of w f rules g p (λ r i. settled_supported w f below e r sub (s r i) g p t))

-- where nothing is sieved out, all is settled
pub unsieved_settled : (w : ℕ) (rules : List Rule) (f : Family) → Below w f → ((g p : ℕ) → T (f g p) → T (all_support w f rules g p)) → Settled rules f
unsieved_settled w rules f below h r i = supported_settled w f below r (λ g p t. all_support_is w f rules g p (h g p t) r i)

-- ---- how many positions are open

abbrev pub one_if : Bool → ℕ
one_if true = 1
one_if false = 0

one_if_grows : (a b : Bool) → (T a → T b) → one_if a ≤ one_if b
one_if_grows true true h = le_refl 1
one_if_grows true false h = absurd (h tt)
one_if_grows false true h = omega arith
one_if_grows false false h = le_refl 0

one_if_back : (a b : Bool) → one_if a ≤ one_if b → T a → T b
one_if_back true true h t = tt
one_if_back true false h t = omega arith
one_if_back false true h t = tt
one_if_back false false h t = t

-- a sum over the numbers below n
abbrev pub over : ℕ → (ℕ → ℕ) → ℕ
over zero a = 0
over (suc n) a = a n + over n a

pub over_grows : (n : ℕ) (a b : ℕ → ℕ) → ((k : ℕ) → a k ≤ b k) → over n a ≤ over n b
over_grows zero a b h = le_refl 0
over_grows (suc n) a b h = let x = h n in let y = over_grows n a b h in omega arith

pub last_or_before : (k n : ℕ) → k < suc n → (k ≡ n) ⊎ (k < n)
last_or_before k n h = go (eqb k n) (λ t. eqb→eq k n t) (λ e. eqb_of k n e)
  where
    go : (b : Bool) → (T b → k ≡ n) → (k ≡ n → T b) → (k ≡ n) ⊎ (k < n)
    go true f g = inl (f tt)
    go false f g = let d : (k ≡ n → ⊥) = g in inr (omega arith)

over_back : (n : ℕ) (a b : ℕ → ℕ) → ((k : ℕ) → a k ≤ b k) → over n b ≤ over n a → (k : ℕ) → k < n → b k ≤ a k
over_back zero a b h e k l = absurd (omega arith)
over_back (suc n) a b h e k l = go (last_or_before k n l) (λ x. over_back n a b h rest k x)
  where
    rest : over n b ≤ over n a
    rest = let x = h n in omega arith

    here : b n ≤ a n
    here = let y = over_grows n a b h in omega arith

    go : (k ≡ n) ⊎ (k < n) → (k < n → b k ≤ a k) → b k ≤ a k
    go (inl x) f = subst (λ (j : ℕ). b j ≤ a j) (sym x) here
    go (inr x) f = f x

abbrev pub count : ℕ → ℕ → Family → ℕ
count n w f = over n (λ g. over w (λ p. one_if (f g p)))

pub row_grows : (w : ℕ) (f h : Family) → Inside h f → (g : ℕ) → over w (λ p. one_if (h g p)) ≤ over w (λ p. one_if (f g p))
row_grows w f h sub g = over_grows w (λ p. one_if (h g p)) (λ p. one_if (f g p)) (λ p. one_if_grows (h g p) (f g p) (sub g p))

pub count_back : (n w : ℕ) (f h : Family) → Inside h f → count n w f ≤ count n w h → (g p : ℕ) → g < n → p < w → T (f g p) → T (h g p)
count_back n w f h sub e g p lg lp t =
    let row = over_back n (λ k. over w (λ q. one_if (h k q))) (λ k. over w (λ q. one_if (f k q))) (row_grows w f h sub) e g lg in
    one_if_back (f g p) (h g p)
    (over_back w (λ q. one_if (h g q)) (λ q. one_if (f g q)) (λ q. one_if_grows (h g q) (f g q) (sub g q)) row p lp) t

-- ---- sieving to the end

module _ (n w : ℕ) (rules : List Rule) where
  abbrev Box : Family → Type 0
  Box f = (g p : ℕ) → T (f g p) → (g < n) × (p < w)

  Still : Family → Type 0
  Still f = (g p : ℕ) → T (f g p) → T (all_support w f rules g p)

  pub times : ℕ → Family → Family
  times zero f = f
  times (suc k) f = times k (sieved w rules f)

  times_inside : (k : ℕ) (f : Family) → Inside (times k f) f
  unfolding times
  times_inside zero f g p t = t
  times_inside (suc k) f g p t = sieved_inside w rules f g p (times_inside k (sieved w rules f) g p t)

  sieved_box : (f : Family) → Box f → Box (sieved w rules f)
  sieved_box f b g p t = b g p (sieved_inside w rules f g p t)

  times_contains : (k : ℕ) (f e : Family) → Box f → Settled rules e → Inside e f → Inside e (times k f)
  unfolding times
  times_contains zero f e b s sub = sub
  times_contains (suc k) f e b s sub =
      times_contains k (sieved w rules f) e (sieved_box f b) s (sieved_contains w rules f e (λ g p t. (b g p t).1) s sub)

  full_still : (f : Family) → Box f → count n w f ≤ count n w (sieved w rules f) → Still f
  unfolding Still
  full_still f b e g p t =
      right (f g p) (all_support w f rules g p)
      (count_back n w f (sieved w rules f) (sieved_inside w rules f) e g p (b g p t).0 (b g p t).1 t)

  still_times : (k : ℕ) (f : Family) → Still f → times k f ≡ f
  unfolding times Still
  still_times zero f s = refl
  still_times (suc k) f s =
      let same : sieved w rules f ≡ f =
      families_agree (sieved w rules f) f (sieved_inside w rules f) (λ g p t. both (f g p) (all_support w f rules g p) t (s g p t)) in
      ap (times k) same ∙ still_times k f s

  times_still : (k : ℕ) (f : Family) → Box f → count n w f ≤ k → Still (times k f)
  unfolding times
  times_still zero f b h = full_still f b (let x = h in omega arith)
  times_still (suc k) f b h = go (decided (leb (count n w f) (count n w (sieved w rules f)))) (λ l. times_still k (sieved w rules f) (sieved_box f b) l)
    where
      go : T (leb (count n w f) (count n w (sieved w rules f))) ⊎ (T (leb (count n w f) (count n w (sieved w rules f))) → ⊥)
          → (count n w (sieved w rules f) ≤ k → Still (times k (sieved w rules f))) → Still (times k (sieved w rules f))
      go (inl t) rec =
          let s = full_still f b (leb→le _ _ t) in
          let same : sieved w rules f ≡ f =
          families_agree (sieved w rules f) f (sieved_inside w rules f) (λ g p u. both (f g p) (all_support w f rules g p) u (unfold Still in (s g p u))) in
          subst Still (sym (ap (times k) same ∙ still_times k f s)) s
      go (inr no') rec =
          let d : (count n w f ≤ count n w (sieved w rules f) → ⊥) = λ l. no' (le→leb _ _ l) in
          rec (omega arith)

  reached : (f : Family) → Box f → Largest rules f (times (count n w f) f)
  unfolding Still
  reached f b =
      let k = count n w f in
      record {
        inside = times_inside k f;
        settled = unsieved_settled w rules (times k f) (λ g p t. (b g p (times_inside k f g p t)).1) (times_still k f b (le_refl k));
        contains = λ e sub s. times_contains k f e b s sub;
      }

pub some_largest : SomeLargest
some_largest load box = (
  times load.plan.gates load.plan.width load.plan.rules (count load.plan.gates load.plan.width load.start) load.start,
  reached load.plan.gates load.plan.width load.plan.rules load.start box,
)
