-- What `parse` gives, in the words of the definitions.
use Rattle.std.proofs.Common.{rules, ◌∙◌, ◌≡◌, ℕ, List, Result, Ok, Err, refl}
use Rattle.std.specs.Prelude.{if◌then◌else◌, ◌<◌, ◌^◌, nat_lt, Bool, true, false, ◌&&◌, length}
use Rattle.std.specs.Result.{result_unwrap_or}
use Rattle.std.specs.Str.{all_ascii_digits}
use Rattle.std.specs.Str.Parse.{ParsesUnsigned, IsNumeral, digits_value, without_leading_plus}
use Rattle.std.proofs.lemmas.Bool.{and_parts}
use Rattle.std.proofs.lemmas.Str.Parse.{IsNumeralModel, numerals_by_value, tells_all_ascii_digits}
use Rattle.cases.specs.Hexadecimal.{number_or_zero}

own : IsNumeralModel (λ ds. all_ascii_digits ds ≡ true) (digits_value 10)
own = numerals_by_value _ tells_all_ascii_digits

-- the test of `number_of_digits`
abbrev is_number : List ℕ → Bool
is_number ds = nat_lt 0 (length ds) && all_ascii_digits ds && nat_lt (digits_value 10 ds) (2 ^ 64)

when_number : (t : Bool) (v : ℕ) → t ≡ true → v ≡ (if t then v else 0)
when_number t v h = rw h refl

when_none : (t : Bool) (v : ℕ) → (t ≡ true → ⊥) → 0 ≡ (if t then v else 0)
when_none true v h = absurd (h refl)
when_none false v h = refl

is_number-numeral : (ds : List ℕ) → IsNumeral 10 ds → digits_value 10 ds < 2 ^ 64 → is_number ds ≡ true
is_number-numeral ds n small =
    let digits : all_ascii_digits ds ≡ true = own.from ds n.1 in
    search (rules, digits, n.0, small)

numeral-is_number : (ds : List ℕ) → is_number ds ≡ true → IsNumeral 10 ds × (digits_value 10 ds < 2 ^ 64)
numeral-is_number ds h =
    let p = and_parts (nat_lt 0 (length ds) && all_ascii_digits ds) (nat_lt (digits_value 10 ds) (2 ^ 64)) h in
    let q = and_parts (nat_lt 0 (length ds)) (all_ascii_digits ds) p.0 in
    ((search (rules, q.0), own.to ds q.1), search (rules, p.1))

pub number_or_zero-parsed : {E : Type 0} (bs : List ℕ) (r : Result ℕ E) → ParsesUnsigned 64 10 bs r → result_unwrap_or r 0 ≡ number_or_zero bs
number_or_zero-parsed bs (Ok n) h =
    let ds = without_leading_plus bs in
    h.1 ∙ when_number (is_number ds) (digits_value 10 ds) (is_number-numeral ds h.0.0 h.0.1)
number_or_zero-parsed bs (Err e) h =
    let ds = without_leading_plus bs in
    when_none (is_number ds) (digits_value 10 ds) (λ t. h (numeral-is_number ds t))
