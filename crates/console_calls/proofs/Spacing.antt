-- Numbers behind spaces, one more.
use Rattle.std.proofs.Common.{◌≡◌, ℕ, ◌+◌, ◌<◌, ◌≤◌, List, [], ◌∷◌, ◌++◌, length, get_or, take, codes, decimal, sym, refl, ap, ◌∙◌, ap₂, take_all}
use Rattle.std.proofs.lemmas.List.{append_assoc, take_more}
use Rattle.console_calls.specs.Lines.{spaced}

pub spaced_append : (xs ys : List ℕ) → spaced (xs ++ ys) ≡ spaced xs ++ spaced ys
spaced_append [] ys = refl
spaced_append (n ∷ ns) ys =
    ap (λ (zs : List ℕ). (codes " " ++ decimal n) ++ zs) (spaced_append ns ys) ∙ sym (append_assoc (codes " " ++ decimal n) (spaced ns) (spaced ys))

pub one_more : (start out after ns : List ℕ) (i : ℕ) → i < length ns → out ≡ start ++ spaced (take i ns) → after ≡ out ++ spaced (get_or ns i 0 ∷ [])
    → after ≡ start ++ spaced (take (i + 1) ns)
one_more start out after ns i l so e =
    e ∙ ap (λ (xs : List ℕ). xs ++ spaced (get_or ns i 0 ∷ [])) so ∙ append_assoc start (spaced (take i ns)) (spaced (get_or ns i 0 ∷ []))
    ∙ ap (λ (xs : List ℕ). start ++ xs) (sym (spaced_append (take i ns) (get_or ns i 0 ∷ [])) ∙ ap spaced (sym (take_more ns i 0 l)))

-- what was there, a word, numbers, and the end of the line
pub line : (start word ns end begun out after : List ℕ) (i : ℕ) → length ns ≤ i → begun ≡ start ++ word → out ≡ begun ++ spaced (take i ns) → after ≡ out ++ end
    → after ≡ start ++ (word ++ (spaced ns ++ end))
line start word ns end begun out after i l a b e =
    e ∙ ap (λ (xs : List ℕ). xs ++ end) (b ∙ ap₂ {C = List ℕ} (λ (xs ys : List ℕ). xs ++ spaced ys) a (take_all i ns l))
    ∙ append_assoc (start ++ word) (spaced ns) end ∙ append_assoc start word (spaced ns ++ end)
