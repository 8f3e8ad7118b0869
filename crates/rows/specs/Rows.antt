-- What a row of bits holds.
use Rattle.std.specs.Prelude.{◌≡◌, ℕ, ◌/◌, ◌%◌, ◌^◌, ◌<◌, ◌≤◌, Bool, true, false, List, Some, None, Option, ◌==◌, slice_index}
use Rattle.model.specs.Bounds.{most_width}
use Rattle.rows.specs.declared.Row.{Row}

-- digit k of a number, the lowest first
unfoldable pub bit : ℕ → ℕ → Bool
bit n k = n / 2 ^ k % 2 == 1

-- bit q of words of 64 bits
abbrev pub held : List ℕ → ℕ → Bool
held words q = bit (slice_index words (q / 64)) (q % 64)

-- the row holds the position
abbrev pub lit : Row → ℕ → Bool
lit r q = held r.words q

-- the row holds just what the test admits
abbrev pub Holds : Row → (ℕ → Bool) → Type 0
Holds r t = (q : ℕ) → q < most_width → lit r q ≡ t q

-- the first position from a on that it holds below b
abbrev pub NextIn : Row → ℕ → ℕ → Option ℕ → Type 0
NextIn r a b None = (q : ℕ) → a ≤ q → q < b → lit r q ≡ false
NextIn r a b (Some p) = (a ≤ p) × (p < b) × (lit r p ≡ true) × ((q : ℕ) → a ≤ q → q < p → lit r q ≡ false)

-- the first position from `from` on that it holds
abbrev pub Next : Row → ℕ → Option ℕ → Type 0
Next r from o = NextIn r from most_width o

-- the last position from a on that it holds below b
abbrev pub LastIn : Row → ℕ → ℕ → Option ℕ → Type 0
LastIn r a b None = (q : ℕ) → a ≤ q → q < b → lit r q ≡ false
LastIn r a b (Some p) = (a ≤ p) × (p < b) × (lit r p ≡ true) × ((q : ℕ) → p < q → q < b → lit r q ≡ false)

-- the last position that it holds
abbrev pub Last : Row → Option ℕ → Type 0
Last r o = LastIn r 0 most_width o
