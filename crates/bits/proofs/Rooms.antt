-- The pigeonhole: while a position is open there is room for it on the trail.
use Rattle.std.proofs.Common.{◌≡◌, ℕ, zero, suc, ◌+◌, ◌*◌, ◌<◌, ◌≤◌, false, eqb, ltb, List, [], ◌∷◌, length, filter, sym, refl, ap, ◌∙◌, subst, ap₂, ⊎_elim, suc-mul, arith, lt→ltb}
use Rattle.std.proofs.lemmas.List.{length-map}
use Rattle.std.proofs.lemmas.Bool.{cases_eq, cond-true, cond-false, eq-eqb, ne_eqb}
use Rattle.model.specs.Families.{has}
use Rattle.model.specs.Planners.{all_below}
use Rattle.model.proofs.Tests.{both}
use Rattle.store.proofs.Members.{false_not}
use Rattle.store.proofs.Counts.{left_count, gone_short}
use Rattle.stack.specs.Stacks.{items, room}
use Rattle.bits.specs.Representation.{gone_in, Listed}
use Rattle.bits.specs.Meanings.{meaning}
use Rattle.bits.specs.Trails.{listed_head, listed_tail}
use Rattle.bits.specs.Soundness.{sound}
use Rattle.bits.specs.declared.entry.Record.{Record}
use Rattle.bits.specs.declared.Bits.{Bits}

-- f 0 + f 1 + .. + f (n - 1)
unfoldable sum : ℕ → (ℕ → ℕ) → ℕ
sum zero f = 0
sum (suc n) f = f n + sum n f

sum_same : (n : ℕ) (f h : ℕ → ℕ) → ((v : ℕ) → v < n → f v ≡ h v) → sum n f ≡ sum n h
unfolding sum
sum_same zero f h e = refl
sum_same (suc n) f h e = ap₂ (λ a b. a + b) (e n (omega arith)) (sum_same n f h (λ v l. e v (omega arith)))

sum_none : (n : ℕ) → sum n (λ _. 0) ≡ 0
unfolding sum
sum_none zero = refl
sum_none (suc n) = let e = sum_none n in omega arith

sum_le : (n b : ℕ) (f : ℕ → ℕ) → ((v : ℕ) → v < n → f v ≤ b) → sum n f ≤ n * b
unfolding sum
sum_le zero b f h = omega arith
sum_le (suc n) b f h = omega (arith, suc-mul n b, h n (omega arith), sum_le n b f (λ v l. h v (omega arith)))

sum_lt : (n b : ℕ) (f : ℕ → ℕ) → ((v : ℕ) → v < n → f v ≤ b) → (g : ℕ) → g < n → f g < b → sum n f < n * b
unfolding sum
sum_lt zero b f h g l s = absurd (omega arith)
sum_lt (suc n) b f h g l s =
    ⊎_elim
    (λ (e : g ≡ n). let s' : f n < b = subst (λ v. f v < b) e s in omega (arith, suc-mul n b, sum_le n b f (λ v k. h v (omega arith))))
    (λ (ne : g ≡ n → ⊥). omega (arith, suc-mul n b, h n (omega arith), sum_lt n b f (λ v k. h v (omega arith)) g (omega arith) s))
    (cases_eq g n)

-- the records of gate v
abbrev of : ℕ → List Record → List Record
of v xs = filter (λ r. eqb r.gate v) xs

of_same : (r : Record) (xs : List Record) (v : ℕ) → r.gate ≡ v → length (of v (r ∷ xs)) ≡ suc (length (of v xs))
of_same r xs v e = ap length (cond-true (eqb r.gate v) (r ∷ of v xs) (of v xs) (eq-eqb r.gate v e))

of_other : (r : Record) (xs : List Record) (v : ℕ) → (r.gate ≡ v → ⊥) → length (of v (r ∷ xs)) ≡ length (of v xs)
of_other r xs v ne = ap length (cond-false (eqb r.gate v) (r ∷ of v xs) (of v xs) (ne_eqb r.gate v ne))

one_more : (n : ℕ) (r : Record) (xs : List Record) → r.gate < n → sum n (λ v. length (of v (r ∷ xs))) ≡ suc (sum n (λ v. length (of v xs)))
unfolding sum
one_more zero r xs h = absurd (omega arith)
one_more (suc n) r xs h =
    ⊎_elim
    (λ (e : r.gate ≡ n).
    omega (arith, of_same r xs n e, sum_same n (λ v. length (of v (r ∷ xs))) (λ v. length (of v xs)) (λ v l. of_other r xs v (λ d. omega arith))))
    (λ (ne : r.gate ≡ n → ⊥). omega (arith, of_other r xs n ne, one_more n r xs (omega arith)))
    (cases_eq r.gate n)

-- a trail is as long as its gates' parts
by_gates : (xs : List Record) (n w : ℕ) → Listed xs n w → length xs ≡ sum n (λ v. length (of v xs))
by_gates [] n w h = sym (sum_none n)
by_gates (r ∷ xs) n w h = ap suc (by_gates xs n w (listed_tail r xs n w h)) ∙ sym (one_more n r xs (listed_head r xs n w h).0)

-- the position is open to the gate
module _ (s : Bits) (g p : ℕ) (hg : g < s.gates) (hp : p < s.width) (o : has (gone_in g (items s.trail)) p ≡ false) where
  pub gone_shorter : length (gone_in g (items s.trail)) < s.width
  gone_shorter =
      let ys = gone_in g (items s.trail) in
      let z = sound s in
      omega (
        arith,
        left_count s.width (p ∷ ys) (false_not (has ys p) o, z.once g) (both (ltb p s.width) (all_below s.width ys) (lt→ltb p s.width hp) (z.below g)),
      )

  pub trail_room : length (items s.trail) < room s.trail
  trail_room =
      let xs = items s.trail in
      let long : (v : ℕ) → length (of v xs) ≡ length (gone_in v xs) = λ v. sym (length-map (of v xs) (λ r. r.position)) in
      omega (
        arith,
        s.fit.2,
        by_gates xs s.gates s.width s.listed,
        sum_lt s.gates s.width (λ v. length (of v xs)) (λ v _. omega (arith, long v, gone_short (meaning s) (sound s) v)) g hg (omega (arith, long g, gone_shorter)),
      )
