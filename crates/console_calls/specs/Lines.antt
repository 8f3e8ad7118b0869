-- The lines of calls.
use Rattle.std.specs.Prelude.{ℕ, List, [], ◌∷◌, ◌++◌, codes, decimal}
use Rattle.model.specs.declared.refusal.Refusal.{Refusal}
use Rattle.model.specs.Refusals.{number_of}

-- each number behind a space
abbrev pub spaced : List ℕ → List ℕ
spaced [] = []
spaced (n ∷ ns) = (codes " " ++ decimal n) ++ spaced ns

-- a call's word and the numbers that it told
abbrev pub told_line : List ℕ → List ℕ → List ℕ
told_line word ns = word ++ (spaced ns ++ codes "\n")

-- a call's word and the number of its refusal
abbrev pub denied_line : List ℕ → Refusal → List ℕ
denied_line word k = word ++ (codes " no " ++ (decimal (number_of k) ++ codes "\n"))
