-- Tests that decide what there is.
use Rattle.std.specs.Prelude.{ℕ, Bool, cond, ◌&&◌, Some, None, Option, nat_le}

-- a value that is there if a test passes
abbrev pub when : {X : Type 0} → Bool → X → Option X
when t x = cond t (Some x) None

-- is n from low to high?
abbrev pub within : ℕ → ℕ → ℕ → Bool
within low high n = nat_le low n && nat_le n high
