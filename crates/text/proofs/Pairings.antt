-- Payloads in pairs of bytes, as a loop over the pairs meets them.
use Rattle.std.proofs.Common.{◌≡◌, ℕ, List, [], ◌∷◌, ◌++◌, length, get_or, arith}

-- what stands at the front is the next pair
pub peel : (xs pair rest : List ℕ) → xs ≡ pair ++ rest → length pair ≡ 2 → xs ≡ get_or pair 0 0 ∷ (get_or pair 1 0 ∷ rest)
peel xs [] rest e n = absurd (omega arith)
peel xs (a ∷ []) rest e n = absurd (omega arith)
peel xs (a ∷ (b ∷ [])) rest e n = e
peel xs (a ∷ (b ∷ (z ∷ zs))) rest e n = absurd (omega arith)
