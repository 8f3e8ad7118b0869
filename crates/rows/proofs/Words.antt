-- Rows, word by word.
use Rattle.std.proofs.Common.{◌≡◌, ℕ, ◌+◌, ◌-◌, ◌*◌, ◌/◌, ◌%◌, ◌^◌, ◌<◌, ◌≤◌, Bool, true, false, not, ◌&&◌, ◌||◌, eqb, ltb, List, length, get_or, set, sym, ap, ◌∙◌, ap₂, ⊎_elim, arith}
use mathlib.Core.Bool.{and-true, or_comm}
use lib.Bits.{bit_and, bit_or, and_mask}
use Rattle.std.proofs.lemmas.Bool.{eq-eqb, ne_eqb, cases_eq, cases_lt, lt-ltb, le-ltb, both_ways}
use Rattle.std.proofs.lemmas.Nat.{one_shl, pow_pos, pow_below, shr_le}
use lib.Count.{count_trailing_zeros, count_leading_zeros}
use Rattle.std.proofs.lemmas.List.{get_or-set_same, get_or-set_other}
use Rattle.rows.specs.Rows.{bit, held}
use Rattle.rows.proofs.Digits.{bit_of_and, bit_of_or, bit_of_not, bit_pow, bit_shr, bit_zero, bit_above, trailing_first, leading_last}

-- word i changed
module _ (ws : List ℕ) (i x : ℕ) (long : i < length ws) (t : ℕ → Bool)
    (here : (k : ℕ) → k < 64 → bit x k ≡ t (64 * i + k))
    (else' : (q : ℕ) → (q / 64 ≡ i → ⊥) → held ws q ≡ t q) where
  held_set : (q : ℕ) → held (set ws i x) q ≡ t q
  held_set q =
      ⊎_elim
      (λ (e : q / 64 ≡ i).
      let f : 64 * i + q % 64 ≡ q = omega arith in
      ap (λ j. bit (get_or (set ws i x) j 0) (q % 64)) e
      ∙ ap (λ y. bit y (q % 64)) (get_or-set_same ws i x 0 long) ∙ here (q % 64) (omega arith) ∙ ap t f)
      (λ (ne : q / 64 ≡ i → ⊥).
      ap (λ y. bit y (q % 64)) (get_or-set_other ws i (q / 64) x 0 ne) ∙ else' q ne)
      (cases_eq (q / 64) i)

flag : (k : ℕ) → k < 64 → (1 * 2 ^ k) % 2 ^ 64 ≡ 2 ^ k
flag k h = one_shl k 64 h

-- contains
pub bit_test : (x k : ℕ) → eqb (bit_and (x / 2 ^ k) 1) 1 ≡ bit x k
unfolding bit
bit_test x k = ap (λ n. eqb n 1) (and_mask (x / 2 ^ k) 1)

-- set and clear
put_here : (x k j : ℕ) → k < 64 → bit (bit_or x ((1 * 2 ^ k) % 18446744073709551616)) j ≡ (eqb j k || bit x j)
put_here x k j h =
    ap (λ n. bit (bit_or x n) j) (flag k h) ∙ bit_of_or x (2 ^ k) j ∙ ap (λ b. bit x j || b) (bit_pow k j) ∙ or_comm (bit x j) (eqb j k)

drop_here : (x k j : ℕ) → k < 64 → j < 64 → bit (bit_and x (18446744073709551615 - (1 * 2 ^ k) % 18446744073709551616)) j ≡ (bit x j && not (eqb j k))
drop_here x k j h l =
    ap (λ n. bit (bit_and x (18446744073709551615 - n)) j) (flag k h) ∙ bit_of_and x (18446744073709551615 - 2 ^ k) j
    ∙ ap (λ b. bit x j && b) (bit_of_not 64 (2 ^ k) j (pow_below k 64 h) l ∙ ap not (bit_pow k j))

held_at : (ws : List ℕ) (i k : ℕ) → k < 64 → held ws (64 * i + k) ≡ bit (get_or ws i 0) k
held_at ws i k h =
    let d : (64 * i + k) / 64 ≡ i = omega arith in
    let m : (64 * i + k) % 64 ≡ k = omega arith in
    ap₂ (λ a b. bit (get_or ws a 0) b) d m

-- bit k of word i
module _ (ws : List ℕ) (i k : ℕ) (long : i < length ws) (small : k < 64) where
  eqb_parts : (j : ℕ) → j < 64 → eqb j k ≡ eqb (64 * i + j) (64 * i + k)
  eqb_parts j l =
      ⊎_elim
      (λ (h : j ≡ k). eq-eqb j k h ∙ sym (eq-eqb (64 * i + j) (64 * i + k) (omega arith)))
      (λ (h : j ≡ k → ⊥). ne_eqb j k h ∙ sym (ne_eqb (64 * i + j) (64 * i + k) (λ f. h (omega arith))))
      (cases_eq j k)

  elsewhere : (q : ℕ) → (q / 64 ≡ i → ⊥) → eqb q (64 * i + k) ≡ false
  elsewhere q ne = ne_eqb q (64 * i + k) (λ e. ne (omega arith))

  pub held_set_bit : (q : ℕ) → held (set ws i (bit_or (get_or ws i 0) ((1 * 2 ^ k) % 18446744073709551616))) q ≡ (eqb q (64 * i + k) || held ws q)
  held_set_bit =
      held_set ws i (bit_or (get_or ws i 0) ((1 * 2 ^ k) % 18446744073709551616)) long (λ q. eqb q (64 * i + k) || held ws q)
      (λ j l. put_here (get_or ws i 0) k j small ∙ ap₂ (λ a b. a || b) (eqb_parts j l) (sym (held_at ws i j l)))
      (λ q ne. sym (ap (λ b. b || held ws q) (elsewhere q ne)))

  pub held_clear_bit : (q : ℕ) → held (set ws i (bit_and (get_or ws i 0) (18446744073709551615 - (1 * 2 ^ k) % 18446744073709551616))) q ≡ (held ws q && not (eqb q (64 * i + k)))
  held_clear_bit =
      held_set ws i (bit_and (get_or ws i 0) (18446744073709551615 - (1 * 2 ^ k) % 18446744073709551616)) long (λ q. held ws q && not (eqb q (64 * i + k)))
      (λ j l. drop_here (get_or ws i 0) k j small l ∙ ap₂ (λ a b. a && not b) (sym (held_at ws i j l)) (eqb_parts j l))
      (λ q ne. sym (ap (λ b. held ws q && not b) (elsewhere q ne) ∙ and-true (held ws q)))

-- a word of ones below n
ones_bits : (n k : ℕ) → n ≤ 64 → k < 64 → bit (2 ^ n - 1) k ≡ ltb k n
ones_bits n k h l =
    ⊎_elim
    (λ (s : k < n).
    let z : 0 < 2 ^ n = pow_pos n in
    let e : 2 ^ n - 1 ≡ 2 ^ n - 1 - 0 = omega arith in
    ap (λ x. bit x k) e ∙ bit_of_not n 0 k z s ∙ ap not (bit_zero k) ∙ sym (lt-ltb k n s))
    (λ (s : n ≤ k). bit_above n (2 ^ n - 1) k (omega (arith, pow_pos n)) s ∙ sym (le-ltb k n s))
    (cases_lt k n)

-- the same, as the code makes it
pub ones_below : (n k : ℕ) → n < 64 → k < 64 → bit (1 * 2 ^ n % 18446744073709551616 - 1) k ≡ ltb k n
ones_below n k h l = ap (λ x. bit (x - 1) k) (flag n h) ∙ ones_bits n k (omega arith) l

pub ones_all : (n k : ℕ) → 64 ≤ n → k < 64 → ltb k n ≡ bit 18446744073709551615 k
ones_all n k h l = lt-ltb k n (omega arith) ∙ sym (ones_bits 64 k (omega arith) l ∙ lt-ltb k 64 l)

-- the first and the last bit of a word in its row
module _ (ws : List ℕ) where
  pub none_word : (i q : ℕ) → get_or ws i 0 ≡ 0 → q / 64 ≡ i → held ws q ≡ false
  none_word i q z e = ap (λ j. bit (get_or ws j 0) (q % 64)) e ∙ ap (λ n. bit n (q % 64)) z ∙ bit_zero (q % 64)

  -- position `from` is bit r of word i
  module _ (from i r : ℕ) (word : i ≡ from / 64) (digit : r ≡ from % 64) where
    pub none_from : (q : ℕ) → get_or ws i 0 / 2 ^ r ≡ 0 → from ≤ q → q < 64 * (i + 1) → held ws q ≡ false
    none_from q z l u =
        let d : q / 64 ≡ i = omega arith in
        let m : q % 64 ≡ r + (q - from) = omega arith in
        ap₂ (λ a b. bit (get_or ws a 0) b) d m ∙ sym (bit_shr (get_or ws i 0) r (q - from)) ∙ ap (λ n. bit n (q - from)) z ∙ bit_zero (q - from)

    pub first_from : (get_or ws i 0 / 2 ^ r ≡ 0 → ⊥) → get_or ws i 0 < 2 ^ 64 →
        let t : ℕ = count_trailing_zeros 64 (get_or ws i 0 / 2 ^ r) in
        (r + t < 64) × (held ws (from + t) ≡ true) × ((q : ℕ) → from ≤ q → q < from + t → held ws q ≡ false)
    first_from nz fits =
        let w = get_or ws i 0 in
        let x = w / 2 ^ r in
        let t = count_trailing_zeros 64 x in
        let f = trailing_first 64 x (omega arith) (omega (arith, shr_le w r)) in
        let here : bit w (r + t) ≡ true = sym (bit_shr w r t) ∙ f.1 in
        let low : r + t < 64 = ⊎_elim {C = r + t < 64} (λ (s : r + t < 64). s) (λ (s : 64 ≤ r + t). absurd (both_ways (bit w (r + t)) (bit_above 64 w (r + t) fits s) here)) (cases_lt (r + t) 64) in
        let d : (from + t) / 64 ≡ i = omega arith in
        let m : (from + t) % 64 ≡ r + t = omega arith in (
          low,
          ap₂ (λ a b. bit (get_or ws a 0) b) d m ∙ here,
          λ q l u.
              let d' : q / 64 ≡ i = omega arith in
              let m' : q % 64 ≡ r + (q - from) = omega arith in
              ap₂ (λ a b. bit (get_or ws a 0) b) d' m' ∙ sym (bit_shr w r (q - from)) ∙ f.2 (q - from) (omega arith),
        )

  pub last_word : (i : ℕ) → (get_or ws i 0 ≡ 0 → ⊥) → get_or ws i 0 < 2 ^ 64 →
      (j : ℕ) × (j + count_leading_zeros 64 (get_or ws i 0) ≡ 63) × (held ws (64 * i + j) ≡ true) × ((q : ℕ) → 64 * i + j < q → q < 64 * i + 64 → held ws q ≡ false)
  last_word i nz fits =
      let f = leading_last 64 (get_or ws i 0) (omega arith) fits in
      let j = f.0 in
      let s : j + count_leading_zeros 64 (get_or ws i 0) ≡ 63 = omega (arith, f.1) in (
        j,
        s,
        held_at ws i j (omega arith) ∙ f.2,
        λ q l u.
            let e : 64 * i + (q - 64 * i) ≡ q = omega arith in
            ap (held ws) (sym e) ∙ held_at ws i (q - 64 * i) (omega arith) ∙ f.3 (q - 64 * i) (omega arith),
      )
