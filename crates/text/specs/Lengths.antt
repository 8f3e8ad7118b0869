-- What tag and length make, where the payload may be missing.
use Rattle.std.specs.Prelude.{ℕ, cond, Err, Result, nat_lt}
use Rattle.model.specs.declared.refusal.Refusal.{Refusal}
use Rattle.model.specs.declared.refusal.Refusal.TheVariants.{Truncated}

-- that fewer bytes are left than the length says is told before what tag and length make
abbrev pub with_payload : {K : Type 0} → (ℕ → ℕ → Result K Refusal) → ℕ → ℕ → ℕ → Result K Refusal
with_payload made tag len left = cond (nat_lt left len) (Err Truncated) (made tag len)
