-- Ranges of positions: two bytes each, the first and the last.
use Rattle.std.specs.Prelude.{ℕ, Bool, true, false, cond, ◌&&◌, ◌||◌, List, [], ◌∷◌, map, None, Option, nat_le, nat_lt}
use Rattle.std.specs.List.{range_with_len}
use Rattle.std.specs.Option.{option_map}
use Rattle.model.specs.Bounds.{most_width}
use Rattle.text.specs.declared.positions.Listing.{Listing}
use Rattle.text.specs.Tests.{when, within}

-- does a position lie in one of the ranges?
abbrev pub covered : List ℕ → ℕ → Bool
covered [] p = false
covered (a ∷ []) p = false
covered (a ∷ (b ∷ rest)) p = within a b p || covered rest p

-- does each range ascend and end below w?
abbrev pub sound : List ℕ → ℕ → Bool
sound [] w = true
sound (a ∷ []) w = true
sound (a ∷ (b ∷ rest)) w = (nat_le a b && nat_lt b w) && sound rest w

-- for each position that a gate can have, whether the ranges cover it
unfoldable pub row_of : List ℕ → ℕ → Option (List Bool)
row_of ranges w = when (sound ranges w) (map (covered ranges) (range_with_len 0 most_width))

-- a gate below n, and behind it its ranges
abbrev pub listing_of : List ℕ → ℕ → ℕ → Option Listing
listing_of [] n w = None
listing_of (g ∷ ranges) n w = cond (nat_lt g n) (option_map (λ row. record { gate = g; row = row }) (row_of ranges w)) None
