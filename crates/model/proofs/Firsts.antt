-- One setting at most comes first.
use Rattle.std.proofs.Common.{◌≡◌, ℕ, ◌⊎◌, List, [], ◌∷◌, Some, None, Option, sym, refl, ap, inl, inr, arith}
use Rattle.model.specs.Settings.{Permitted, Before, First}
use Rattle.model.specs.Statements.{OneAnswer}

not_both : (xs ys : List ℕ) → Before xs ys → Before ys xs → ⊥
not_both [] [] p q = p
not_both [] (b ∷ ys) p q = p
not_both (a ∷ xs) [] p q = p
not_both (a ∷ xs) (b ∷ ys) (inl l) (inl k) = omega arith
not_both (a ∷ xs) (b ∷ ys) (inl l) (inr k) = let e = k.0 in omega arith
not_both (a ∷ xs) (b ∷ ys) (inr l) (inl k) = let e = l.0 in omega arith
not_both (a ∷ xs) (b ∷ ys) (inr l) (inr k) = not_both xs ys l.1 k.1

module _ (Meant : List ℕ → Type 0) where
  firsts : (p q : List ℕ) → (p ≡ q) ⊎ Before p q → (q ≡ p) ⊎ Before q p → p ≡ q
  firsts p q (inl e) k = e
  firsts p q (inr l) (inl e) = sym e
  firsts p q (inr l) (inr k) = absurd (not_both p q l k)

  pub one_first : (a b : Option (List ℕ)) → First Meant a → First Meant b → a ≡ b
  one_first None None x y = refl
  one_first None (Some q) x y = absurd (x q y.0)
  one_first (Some p) None x y = absurd (y p x.0)
  one_first (Some p) (Some q) x y = ap {B = Option (List ℕ)} Some (firsts p q (x.1 q y.0) (y.1 p x.0))

-- the first of those meant, where the same are meant
pub firsts_agree : (Meant Also : List ℕ → Type 0) → ((p : List ℕ) → Meant p → Also p) → ((p : List ℕ) → Also p → Meant p)
    → (a : Option (List ℕ)) → First Meant a → First Also a
firsts_agree Meant Also there back None x = λ p h. x p (back p h)
firsts_agree Meant Also there back (Some p) x = (there p x.0, λ q h. x.1 q (back q h))

pub one_answer : OneAnswer
one_answer plan d a b x y = one_first (Permitted plan d) a b x y
