-- Bytes from hexadecimal, in parts that may be repeated, as in `cafe ab*3`.
use Rattle.std.specs.Prelude.{ℕ, zero, suc, ◌==◌, ◌&&◌, ◌^◌, nat_lt, Bool, if◌then◌else◌, List, [], ◌∷◌, ◌++◌, length, Result, Ok, Err}
use Rattle.std.specs.List.{before_first, after_first, position_or_len, slice_split, repeat, list_any}
use Rattle.std.specs.Char.{is_ascii_uppercase}
use Rattle.std.specs.Str.{all_ascii_digits}
use Rattle.std.specs.Str.Parse.{without_leading_plus, digits_value}
use Rattle.hex.specs.Hex.{decode_of}
use Rattle.hex.specs.declared.error.FromHexError.{FromHexError}
use Rattle.cases.specs.declared.error.CaseError.{CaseError}
use Rattle.cases.specs.declared.error.CaseError.TheVariants.{NotHexadecimal}

abbrev pub is_space : ℕ → Bool
is_space b = b == 32

abbrev pub is_star : ℕ → Bool
is_star b = b == 42

abbrev pub has_star : List ℕ → Bool
has_star part = nat_lt (position_or_len is_star part) (length part)

-- the number that decimal digits write, and 0 where there are none, something else or too many
abbrev pub number_of_digits : List ℕ → ℕ
number_of_digits ds = if nat_lt 0 (length ds) && all_ascii_digits ds && nat_lt (digits_value 10 ds) (2 ^ 64) then digits_value 10 ds else 0

-- a plus may stand before the digits
abbrev pub number_or_zero : List ℕ → ℕ
number_or_zero text = number_of_digits (without_leading_plus text)

-- what is repeated: all before the first star
abbrev pub digits_of : List ℕ → List ℕ
digits_of part = if has_star part then before_first is_star part else part

-- how often: the number behind that star, and once where there is none
abbrev pub times_of : List ℕ → ℕ
times_of part = if has_star part then number_or_zero (after_first is_star part) else 1

-- all that the library's reader does not take is not hexadecimal
abbrev pub or_not_hexadecimal : Result (List ℕ) FromHexError → Result (List ℕ) CaseError
or_not_hexadecimal (Ok bytes) = Ok bytes
or_not_hexadecimal (Err e) = Err NotHexadecimal

-- the bytes that digits write; the library's reader takes capital letters too, and they are no digits here
abbrev pub digit_bytes : List ℕ → Result (List ℕ) CaseError
digit_bytes digits = if list_any is_ascii_uppercase digits then Err NotHexadecimal else or_not_hexadecimal (decode_of digits)

-- bytes n times behind one another; of none it does not matter what they would be
abbrev pub times_over : ℕ → Result (List ℕ) CaseError → Result (List ℕ) CaseError
times_over zero r = Ok []
times_over (suc n) (Ok bytes) = Ok (repeat (suc n) bytes)
times_over (suc n) (Err e) = Err e

-- the bytes of one part
abbrev pub part_bytes : List ℕ → Result (List ℕ) CaseError
part_bytes part = times_over (times_of part) (digit_bytes (digits_of part))

-- two runs of bytes behind one another, or the first error
abbrev pub joined : Result (List ℕ) CaseError → Result (List ℕ) CaseError → Result (List ℕ) CaseError
joined (Ok a) (Ok b) = Ok (a ++ b)
joined (Ok a) (Err e) = Err e
joined (Err e) r = Err e

-- the bytes of all parts
abbrev pub parts_bytes : List (List ℕ) → Result (List ℕ) CaseError
parts_bytes [] = Ok []
parts_bytes (part ∷ parts) = joined (part_bytes part) (parts_bytes parts)

-- the bytes of a text, whose parts have a space between each two
abbrev pub bytes_of : List ℕ → Result (List ℕ) CaseError
bytes_of text = parts_bytes (slice_split is_space text)
