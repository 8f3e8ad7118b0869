-- Laws of what a trail holds of a gate.
use Rattle.std.specs.Prelude.{◌≡◌, ℕ, suc, ◌<◌, ◌≤◌, T, List, [], ◌∷◌, ◌++◌, map, length, take, drop, filter, ◌==◌, nat_eq, nat_lt, refl}
use Rattle.std.proofs.Common.{sym, ap, subst, ◌∙◌, ⊎_elim, arith, lt→ltb}
use Rattle.std.proofs.lemmas.List.{map-append, length-append, take-append-drop}
use Rattle.std.proofs.lemmas.List.Elements.{filter-append}
use Rattle.std.proofs.lemmas.Bool.{cases_eq, cond-true, cond-false, eq-eqb, ne_eqb}
use Rattle.model.specs.Planners.{Once, all_below}
use Rattle.model.proofs.Tests.{both}
use Rattle.store.proofs.Members.{apart_once}
use Rattle.bits.specs.Representation.{gone_in, Listed, Apart}
use Rattle.bits.specs.declared.entry.Record.{Record}

pub gone_append : (g : ℕ) (xs ys : List Record) → gone_in g (xs ++ ys) ≡ gone_in g xs ++ gone_in g ys
gone_append g xs ys =
    ap (map (λ r. r.position)) (filter-append (λ (r : Record). nat_eq r.gate g) xs ys)
    ∙ map-append (λ (r : Record). r.position) (filter (λ r. nat_eq r.gate g) xs) (filter (λ r. nat_eq r.gate g) ys)

pub gone_front : (g k : ℕ) (xs : List Record) → gone_in g xs ≡ gone_in g (take k xs) ++ gone_in g (drop k xs)
gone_front g k xs = ap (gone_in g) (sym (take-append-drop k xs)) ∙ gone_append g (take k xs) (drop k xs)

pub front_short : (g k : ℕ) (xs : List Record) → length (gone_in g (take k xs)) ≤ length (gone_in g xs)
front_short g k xs = omega (arith, ap length (gone_front g k xs), length-append (gone_in g (take k xs)) (gone_in g (drop k xs)))

-- listed records, from the first on
module _ (r : Record) (xs : List Record) (n w : ℕ) (h : Listed (r ∷ xs) n w) where
  pub listed_head : (r.gate < n) × (r.position < w)
  listed_head = h (0, omega arith)

  pub listed_tail : Listed xs n w
  listed_tail = λ x. h (suc x.0, omega (arith, x.1))

pub gone_outside : (xs : List Record) (n w : ℕ) → Listed xs n w → (g : ℕ) → n ≤ g → gone_in g xs ≡ []
gone_outside [] n w h g l = refl
gone_outside (r ∷ xs) n w h g l =
    let ks = filter (λ (r : Record). nat_eq r.gate g) xs in
    ap (map (λ (r : Record). r.position)) (cond-false (r.gate == g) (r ∷ ks) ks (ne_eqb r.gate g (λ e. omega (arith, (listed_head r xs n w h).0))))
    ∙ gone_outside xs n w (listed_tail r xs n w h) g l

pub gone_below : (xs : List Record) (n w : ℕ) → Listed xs n w → (g : ℕ) → T (all_below w (gone_in g xs))
gone_below [] n w h g = tt
gone_below (r ∷ xs) n w h g =
    let ih = gone_below xs n w (listed_tail r xs n w h) g in
    let ks = filter (λ (r : Record). nat_eq r.gate g) xs in
    let P : List Record → Type 0 = λ l. T (all_below w (map (λ (r : Record). r.position) l)) in
    ⊎_elim
    (λ (e : r.gate ≡ g). subst P (sym (cond-true (r.gate == g) (r ∷ ks) ks (eq-eqb r.gate g e)))
    (both (nat_lt r.position w) (all_below w (gone_in g xs)) (lt→ltb r.position w (listed_head r xs n w h).1) ih))
    (λ (ne : r.gate ≡ g → ⊥). subst P (sym (cond-false (r.gate == g) (r ∷ ks) ks (ne_eqb r.gate g ne))) ih)
    (cases_eq r.gate g)

pub gone_once : (xs : List Record) → Apart xs → (g : ℕ) → Once (gone_in g xs)
gone_once xs a g = apart_once (gone_in g xs) (λ i j l k e. a (g, i, j, l, k, e))
