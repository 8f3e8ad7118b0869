-- Steps over a list, one after the other.
use Rattle.std.proofs.Common.{List, [], ◌∷◌, ◌++◌, map, Bor, refl}
use Rattle.std.proofs.lemmas.List.{map_push}
use Rattle.std.specs.List.{FoldsTo}

-- one step more, over an item more
pub FoldsTo-push : {P A : Type 0} (R : P → A → P → Type 0) (p q r : P) (xs : List A) (x : A)
    → FoldsTo R p xs q → R q x r → FoldsTo R p (xs ++ x ∷ []) r
FoldsTo-push R p q r [] x so_far step = (r, rw so_far step, refl)
FoldsTo-push R p q r (y ∷ ys) x so_far step = (so_far.0, so_far.1, FoldsTo-push R so_far.0 q r ys x so_far.2 step)

-- the same over what references point to
pub folds_over_more : {P A : Type 0} (R : P → A → P → Type 0) (p q r : P) (xs : List (Bor A)) (x : Bor A)
    → FoldsTo R p (map (λ y. y.now) xs) q → R q x.now r → FoldsTo R p (map (λ y. y.now) (xs ++ x ∷ [])) r
folds_over_more R p q r xs x so_far step =
    rw (map_push (λ (y : Bor _). y.now) xs x) (FoldsTo-push R p q r (map (λ y. y.now) xs) x.now so_far step)
