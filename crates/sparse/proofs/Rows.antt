-- The arrays as rows of w cells, one for each gate.
use Rattle.std.proofs.Common.{◌≡◌, ℕ, ◌+◌, ◌*◌, ◌<◌, ◌≤◌, ◌⊎◌, List, sym, ap, ◌∙◌, subst, inl, inr, ⊎_elim, add-mul, arith}
use lib.Arith.{digits_lt}
use Rattle.std.proofs.lemmas.Nat.{mul-le}
use Rattle.std.proofs.lemmas.Bool.{cases_eq, cases_lt}
use Rattle.sparse.specs.Arrays.{cell, Perm, Perms, Moved}

pub row_lt : (n w g k l : ℕ) → g < n → k < w → n * w ≤ l → g * w + k < l
row_lt n w g k l p q r = omega (arith, digits_lt p q)

pub row_whole : (n w g l : ℕ) → g < n → n * w ≤ l → g * w + w ≤ l
row_whole n w g l h b = omega (arith, add-mul g 1 w, mul-le (g + 1) w n w (omega arith) (omega arith))

-- a cell of another gate lies outside the row of g
row_outside : (w g h k : ℕ) → k < w → (h ≡ g → ⊥) → (h * w + k < g * w) ⊎ (g * w + w ≤ h * w + k)
row_outside w g h k b ne =
    ⊎_elim
    (λ (l : h < g). inl (digits_lt l b))
    (λ (l : g ≤ h). inr (omega (arith, add-mul g 1 w, mul-le (g + 1) w h w (omega arith) (omega arith))))
    (cases_lt h g)

pub perms_from : (dom map : List ℕ) (n w : ℕ) → ((g : ℕ) → g < n → Perm w (cell dom w g) (cell map w g)) → Perms dom map n w
perms_from dom map n w f x =
    let P = f x.0 x.2 in
    let d = P.0 x.1 x.3 in
    let m = P.1 x.1 x.3 in
    (d.0, m.0, d.1, m.1)

perm_same : (w : ℕ) (D M D' M' : ℕ → ℕ) → ((k : ℕ) → k < w → D' k ≡ D k) → ((k : ℕ) → k < w → M' k ≡ M k) → Perm w D M → Perm w D' M'
perm_same w D M D' M' p q f = (
  λ k b. let r = f.0 k b in (subst (λ x. x < w) (sym (p k b)) r.0, ap M' (p k b) ∙ q (D k) r.0 ∙ r.1),
  λ k b. let r = f.1 k b in (subst (λ x. x < w) (sym (q k b)) r.0, ap D' (q k b) ∙ p (M k) r.0 ∙ r.1),
)

-- gate g arranged anew
module _ (w g count : ℕ) (dom map dom' map' : List ℕ) (x : Moved (g * w) w count dom map dom' map') where
  pub moved_perms : (n : ℕ) → ((h : ℕ) → h < n → Perm w (cell dom w h) (cell map w h)) → Perms dom' map' n w
  moved_perms n f = perms_from dom' map' n w (λ h hh.
      let G : ℕ → Type 0 = λ y. Perm w (cell dom' w y) (cell map' w y) in
      ⊎_elim
      (λ (e : h ≡ g). subst G (sym e) x.perm)
      (λ (ne : h ≡ g → ⊥). perm_same w (cell dom w h) (cell map w h) (cell dom' w h) (cell map' w h)
      (λ k b. x.dom_frame (h * w + k) (row_outside w g h k b ne)) (λ k b. x.map_frame (h * w + k) (row_outside w g h k b ne)) (f h hh))
      (cases_eq h g))

  pub moved_stays : (h k : ℕ) → k < w → (h ≡ g → count ≤ k) → cell dom' w h k ≡ cell dom w h k
  moved_stays h k hk ok =
      let G : ℕ → Type 0 = λ y. cell dom' w y k ≡ cell dom w y k in
      ⊎_elim (λ (e : h ≡ g). subst G (sym e) (x.tail k (ok e) hk)) (λ (ne : h ≡ g → ⊥). x.dom_frame (h * w + k) (row_outside w g h k hk ne)) (cases_eq h g)
