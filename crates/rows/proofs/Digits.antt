-- Laws of single binary digits.
use Rattle.std.proofs.Common.{◌≡◌, ℕ, zero, suc, ◌+◌, ◌-◌, ◌*◌, ◌/◌, ◌%◌, ◌^◌, ◌<◌, ◌≤◌, Bool, true, false, not, ◌&&◌, ◌||◌, eqb, ◌⊎◌, sym, refl, ap, ◌∙◌, subst, inl, inr, ⊎_elim, pow-suc, arith, shr-shr, shr_lt}
use lib.Bits.{bit_and, bit_or, and_shr, or_shr, and_mod, or_mod, shifted_even}
use lib.Pow.{shl-shr}
use lib.Count.{count_leading_zeros, count_trailing_zeros, leading_top, under}
use Rattle.std.proofs.lemmas.Bool.{eq-eqb, ne_eqb, cases_eq, cases_lt}
use Rattle.std.proofs.lemmas.Nat.{pow-add, pow_pos}
use Rattle.rows.specs.Rows.{bit}

small : (u : ℕ) → (u % 2 ≡ 0) ⊎ (u % 2 ≡ 1)
small u = ⊎_elim (λ (h : u % 2 < 1). inl (omega arith)) (λ (h : 1 ≤ u % 2). inr (omega arith)) (cases_lt (u % 2) 1)

-- two digits at once
two : (f : ℕ → ℕ → ℕ) (t : Bool → Bool → Bool) →
    eqb (f 0 0) 1 ≡ t false false → eqb (f 0 1) 1 ≡ t false true → eqb (f 1 0) 1 ≡ t true false → eqb (f 1 1) 1 ≡ t true true →
    (x y : ℕ) → eqb (f (x % 2) (y % 2)) 1 ≡ t (eqb (x % 2) 1) (eqb (y % 2) 1)
two f t a b c d x y =
    ⊎_elim
    (λ (p : x % 2 ≡ 0). ⊎_elim
    (λ (q : y % 2 ≡ 0). rw (p, q) a)
    (λ (q : y % 2 ≡ 1). rw (p, q) b)
    (small y))
    (λ (p : x % 2 ≡ 1). ⊎_elim
    (λ (q : y % 2 ≡ 0). rw (p, q) c)
    (λ (q : y % 2 ≡ 1). rw (p, q) d)
    (small y))
    (small x)

pub bit_of_and : (a b k : ℕ) → bit (bit_and a b) k ≡ (bit a k && bit b k)
unfolding bit
bit_of_and a b k =
    ap (λ n. eqb (n % 2) 1) (and_shr a b k) ∙ ap (λ n. eqb n 1) (and_mod (a / 2 ^ k) (b / 2 ^ k) 1)
    ∙ two bit_and (λ u v. u && v) refl refl refl refl (a / 2 ^ k) (b / 2 ^ k)

pub bit_of_or : (a b k : ℕ) → bit (bit_or a b) k ≡ (bit a k || bit b k)
unfolding bit
bit_of_or a b k =
    ap (λ n. eqb (n % 2) 1) (or_shr a b k) ∙ ap (λ n. eqb n 1) (or_mod (a / 2 ^ k) (b / 2 ^ k) 1)
    ∙ two bit_or (λ u v. u || v) refl refl refl refl (a / 2 ^ k) (b / 2 ^ k)

pub bit_shr : (a c k : ℕ) → bit (a / 2 ^ c) k ≡ bit a (c + k)
unfolding bit
bit_shr a c k = ap (λ n. eqb (n % 2) 1) (shr-shr a c k)

bit_suc : (a k : ℕ) → bit a (suc k) ≡ bit (a / 2) k
bit_suc a k = let e : 1 + k ≡ suc k = omega arith in ap (bit a) (sym e) ∙ sym (bit_shr a 1 k)

bit_low : (a : ℕ) → bit a 0 ≡ eqb (a % 2) 1
unfolding bit
bit_low a = let e : a / 1 ≡ a = omega arith in ap (λ n. eqb (n % 2) 1) e

bit_shl_low : (a c k : ℕ) → k < c → bit (a * 2 ^ c) k ≡ false
unfolding bit
bit_shl_low a c k h =
    let e : suc (c - k - 1) + k ≡ c = omega arith in
    let f : a * 2 ^ (suc (c - k - 1) + k) ≡ a * 2 ^ suc (c - k - 1) * 2 ^ k = ap (λ m. a * m) (pow-add 2 (suc (c - k - 1)) k) ∙ omega arith in
    ap (λ m. eqb (a * 2 ^ m / 2 ^ k % 2) 1) (sym e) ∙ ap (λ m. eqb (m / 2 ^ k % 2) 1) f
    ∙ ap (λ m. eqb (m % 2) 1) (shl-shr (a * 2 ^ suc (c - k - 1)) k) ∙ ap (λ m. eqb m 1) (shifted_even a (c - k - 1))

bit_shl_high : (a c k : ℕ) → c ≤ k → bit (a * 2 ^ c) k ≡ bit a (k - c)
bit_shl_high a c k h =
    let e : c + (k - c) ≡ k = omega arith in
    ap (bit (a * 2 ^ c)) (sym e) ∙ sym (bit_shr (a * 2 ^ c) c (k - c)) ∙ ap (λ n. bit n (k - c)) (shl-shr a c)

pub bit_zero : (k : ℕ) → bit 0 k ≡ false
bit_zero zero = bit_low 0
bit_zero (suc k) = bit_suc 0 k ∙ bit_zero k

pub bit_above : (K a k : ℕ) → a < 2 ^ K → K ≤ k → bit a k ≡ false
bit_above K a k h l =
    let e : K + (k - K) ≡ k = omega arith in
    let z : a / 2 ^ K ≡ 0 = omega (arith, shr_lt {n = a} 0 K (subst (λ (x : ℕ). a < 2 ^ x) (omega arith) h)) in
    ap (bit a) (sym e) ∙ sym (bit_shr a K (k - K)) ∙ ap (λ n. bit n (k - K)) z ∙ bit_zero (k - K)

pub bit_pow : (j k : ℕ) → bit (2 ^ j) k ≡ eqb k j
bit_pow j k =
    let o : 2 ^ j ≡ 1 * 2 ^ j = omega arith in
    ap (λ n. bit n k) o ∙
    ⊎_elim
    (λ (h : k < j). bit_shl_low 1 j k h ∙ sym (ne_eqb k j (λ e. omega arith)))
    (λ (h : j ≤ k). bit_shl_high 1 j k h ∙ ⊎_elim
    (λ (e : k ≡ j). let z : k - j ≡ 0 = omega arith in ap (bit 1) z ∙ bit_low 1 ∙ sym (eq-eqb k j e))
    (λ (e : k ≡ j → ⊥). let z : k - j ≡ suc (k - j - 1) = omega arith in ap (bit 1) z ∙ bit_suc 1 (k - j - 1) ∙ bit_zero (k - j - 1) ∙ sym (ne_eqb k j e))
    (cases_eq k j))
    (cases_lt k j)

pub bit_of_not : (K b k : ℕ) → b < 2 ^ K → k < K → bit (2 ^ K - 1 - b) k ≡ not (bit b k)
bit_of_not zero b k h l = absurd (omega arith)
bit_of_not (suc K) b zero h l =
    let p = pow-suc 2 K in
    let q = pow_pos K in
    bit_low (2 ^ suc K - 1 - b) ∙ ⊎_elim
    (λ (e : b % 2 ≡ 0).
    let o : (2 ^ suc K - 1 - b) % 2 ≡ 1 = omega arith in
    ap (λ n. eqb n 1) o ∙ sym (ap not (bit_low b ∙ ap (λ n. eqb n 1) e)))
    (λ (e : b % 2 ≡ 1).
    let o : (2 ^ suc K - 1 - b) % 2 ≡ 0 = omega arith in
    ap (λ n. eqb n 1) o ∙ sym (ap not (bit_low b ∙ ap (λ n. eqb n 1) e)))
    (small b)
bit_of_not (suc K) b (suc k) h l =
    let p = pow-suc 2 K in
    let q = pow_pos K in
    let e : (2 ^ suc K - 1 - b) / 2 ≡ 2 ^ K - 1 - b / 2 = omega arith in
    bit_suc (2 ^ suc K - 1 - b) k ∙ ap (λ n. bit n k) e ∙ bit_of_not K (b / 2) k (omega arith) (omega arith) ∙ ap not (sym (bit_suc b k))

-- the lowest digit that is set
pub trailing_first : (K a : ℕ) → 0 < a → a < 2 ^ K →
    (count_trailing_zeros K a < K) × (bit a (count_trailing_zeros K a) ≡ true) × ((k : ℕ) → k < count_trailing_zeros K a → bit a k ≡ false)
unfolding count_trailing_zeros
trailing_first zero a p h = absurd (omega arith)
trailing_first (suc K) a p h =
    let q = pow-suc 2 K in
    ⊎_elim
    (λ (e : a % 2 ≡ 0).
    let r = trailing_first K (a / 2) (omega arith) (omega arith) in
    let t : count_trailing_zeros (suc K) a ≡ suc (count_trailing_zeros K (a / 2)) = ap (λ n. under n (count_trailing_zeros K (a / 2))) e in
    let G : ℕ → Type 0 = λ z. (z < suc K) × (bit a z ≡ true) × ((k : ℕ) → k < z → bit a k ≡ false) in
    let under' : (k : ℕ) → k < suc (count_trailing_zeros K (a / 2)) → bit a k ≡ false = low a e (count_trailing_zeros K (a / 2)) r.2 in
    subst G (sym t) (omega (arith, r.0), bit_suc a (count_trailing_zeros K (a / 2)) ∙ r.1, under'))
    (λ (e : a % 2 ≡ 1).
    let t : count_trailing_zeros (suc K) a ≡ 0 = ap (λ n. under n (count_trailing_zeros K (a / 2))) e in
    let G : ℕ → Type 0 = λ z. (z < suc K) × (bit a z ≡ true) × ((k : ℕ) → k < z → bit a k ≡ false) in
    subst G (sym t) (omega arith, bit_low a ∙ ap (λ n. eqb n 1) e, λ k l. absurd (omega arith)))
    (small a)
  where
    low : (a : ℕ) → a % 2 ≡ 0 → (z : ℕ) → ((k : ℕ) → k < z → bit (a / 2) k ≡ false) → (k : ℕ) → k < suc z → bit a k ≡ false
    low a e z f zero l = bit_low a ∙ ap (λ n. eqb n 1) e
    low a e z f (suc k) l = bit_suc a k ∙ f k (omega arith)

-- the highest digit that is set
pub leading_last : (K a : ℕ) → 0 < a → a < 2 ^ K →
    (j : ℕ) × (count_leading_zeros K a + suc j ≡ K) × (bit a j ≡ true) × ((k : ℕ) → j < k → bit a k ≡ false)
leading_last K a p h =
    let t = leading_top K a p h in
    (t.0, t.1, top t.0 a t.2 t.3, λ k l. bit_above (suc t.0) a k t.3 l)
  where
    top : (j a : ℕ) → 2 ^ j ≤ a → a < 2 ^ suc j → bit a j ≡ true
    top zero a l u = let e : a ≡ 1 = omega arith in ap (λ n. bit n 0) e ∙ bit_low 1
    top (suc j) a l u =
        let q = pow-suc 2 j in
        let q' = pow-suc 2 (suc j) in
        bit_suc a j ∙ top j (a / 2) (omega arith) (omega arith)
