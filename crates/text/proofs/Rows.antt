-- The laws of ranges, as a loop over pairs of bytes takes them.
use Rattle.std.proofs.Common.{◌≡◌, ℕ, ◌<◌, Bool, true, false, ◌&&◌, ◌||◌, ltb, leb, List, [], ◌∷◌, ◌++◌, map, length, get_or, Some, None, sym, refl, ap, ◌∙◌, arith}
use Rattle.std.specs.List.{range_with_len}
use Rattle.std.proofs.lemmas.List.FromFn.{fill_by_all}
use Rattle.model.specs.Bounds.{most_width}
use Rattle.text.specs.Tests.{when, within}
use Rattle.text.specs.Ranges.{covered, sound, row_of}
use Rattle.text.proofs.Pairings.{peel}

module _ (xs range rest : List ℕ) (e : xs ≡ range ++ rest) (n : length range ≡ 2) where
  pub sound_peel : (w : ℕ) → sound xs w ≡ ((leb (get_or range 0 0) (get_or range 1 0) && ltb (get_or range 1 0) w) && sound rest w)
  sound_peel w = ap (λ (t : List ℕ). sound t w) (peel xs range rest e n)

  pub covered_peel : (q : ℕ) → covered xs q ≡ (within (get_or range 0 0) (get_or range 1 0) q || covered rest q)
  covered_peel q = ap (λ (t : List ℕ). covered t q) (peel xs range rest e n)

pub sound_end : (xs : List ℕ) (w : ℕ) → length xs < 2 → sound xs w ≡ true
sound_end [] w h = refl
sound_end (a ∷ []) w h = refl
sound_end (a ∷ (b ∷ xs)) w h = absurd (omega arith)

pub covered_end : (xs : List ℕ) (q : ℕ) → length xs < 2 → covered xs q ≡ false
covered_end [] q h = refl
covered_end (a ∷ []) q h = refl
covered_end (a ∷ (b ∷ xs)) q h = absurd (omega arith)

pub unsound : (xs : List ℕ) (w : ℕ) → sound xs w ≡ false → None ≡ row_of xs w
unfolding row_of
unsound xs w e = rw e refl

pub filled : (xs : List ℕ) (w : ℕ) (row : List Bool) → sound xs w ≡ true → length row ≡ most_width → ((q : ℕ) → q < most_width → get_or row q false ≡ covered xs q) → Some row ≡ row_of xs w
unfolding row_of
filled xs w row e n each = ap Some (fill_by_all (covered xs) row most_width false n each) ∙ sym (ap (λ (t : Bool). when t (map (covered xs) (range_with_len 0 most_width))) e)
