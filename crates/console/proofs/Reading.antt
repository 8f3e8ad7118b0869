-- What is read of a reader whose bytes are known.
use Rattle.std.proofs.Common.{◌≡◌, ℕ, List, [], ◌++◌, take, Some, None, Option, IfSome, option_map, ap, ◌∙◌, subst}
use Rattle.std.specs.declared.io.Take.{Take}
use Rattle.std.specs.Io.Take.{take_inner, take_limit, take_remaining}

-- no more than the limit, where nothing was read before
pub first_bytes : {R : Type 0} (remaining : R → Option (List ℕ)) (from : R) (limited : Take R) (limit : ℕ) (before after : List ℕ)
    → take_inner limited ≡ from → take_limit limited ≡ limit → before ≡ []
    → IfSome (take_remaining remaining limited) (λ xs. after ≡ before ++ xs) → IfSome (remaining from) (λ xs. after ≡ take limit xs)
first_bytes remaining from limited limit before after i l e a =
    subst (λ r. IfSome (remaining r) (λ xs. after ≡ take limit xs)) i
    (subst (λ n. IfSome (remaining (take_inner limited)) (λ xs. after ≡ take n xs)) l (bytes (remaining (take_inner limited)) (take_limit limited) a))
  where
    bytes : (o : Option (List ℕ)) (n : ℕ) → IfSome (option_map (take n) o) (λ xs. after ≡ before ++ xs) → IfSome o (λ xs. after ≡ take n xs)
    bytes None n h = h
    bytes (Some xs) n h = h ∙ ap (λ ys. ys ++ take n xs) e
