-- A mark is made.
use Rattle.std.proofs.Common.{◌≡◌, ℕ, suc, ◌+◌, ◌<◌, ◌≤◌, List, ◌∷◌, length, get_or, take, set, refl, ap, ◌∙◌, ap₂, ⊎_elim, arith}
use mathlib.Core.Path.{fun_ext}
use Rattle.std.proofs.lemmas.List.{length-set, get_or-set_same, get_or-set_other, take_all}
use Rattle.std.proofs.lemmas.Bool.{cases_lt}
use Rattle.model.specs.Bounds.{most_marks}
use Rattle.stack.specs.Stacks.{room}
use Rattle.store.specs.Meaning.{saved}
use Rattle.store.proofs.Meanings.{same_meaning}
use Rattle.bits.specs.Representation.{gone_in, Marks, marks_of}
use Rattle.bits.specs.Meanings.{drawn, meaning}
use Rattle.bits.specs.declared.Bits.{Bits}
use Rattle.bits.proofs.Moves.{marks_set}
use Rattle.bits.proofs.Facts.{Facts, facts, on}

pub save_kept : (s : Bits) → s.depth < most_marks → (len : ℕ) → len ≡ length (on s) →
    Facts (room s.trail) (on s) s.gates s.width s.domains (set s.marks s.depth len) (s.depth + 1)
save_kept s h len el =
    let f = s.fit in
    let l = s.long in
    let d = s.depth in
    let long : d < length s.marks = omega (arith, l.1) in
    let old : (e : ℕ) → e < d → get_or (set s.marks d len) e 0 ≡ get_or s.marks e 0 = λ e k. get_or-set_other s.marks d e len 0 (λ z. omega arith) in
    let new : (e : ℕ) → e ≡ d → get_or (set s.marks d len) e 0 ≡ len = λ e z. ap (λ j. get_or (set s.marks d len) j 0) z ∙ get_or-set_same s.marks d len 0 long in
    let marks : Marks (on s) (set s.marks d len) (d + 1) = λ x.
    ⊎_elim
    (λ (b : x.1 < d).
    let c : x.0 < d = omega (arith, x.2) in
    let m = s.marked (x.0, x.1, x.2, b) in
    (omega (arith, old x.0 c, old x.1 b, m.0), omega (arith, old x.1 b, m.1)))
    (λ (b : d ≤ x.1).
    let z : x.1 ≡ d = omega (arith, x.3) in
    let n = new x.1 z in (
      ⊎_elim
          (λ (c : x.0 < d). let m = s.marked (x.0, x.0, omega arith, c) in omega (arith, old x.0 c, m.1))
          (λ (c : d ≤ x.0). let y : x.0 ≡ d = omega (arith, x.2) in omega (arith, new x.0 y))
          (cases_lt x.0 d),
      omega arith,
    ))
    (cases_lt x.1 d) in
    facts (room s.trail) (on s) s.gates s.width s.domains (set s.marks d len) (d + 1)
    (f.0, f.1, f.2, omega arith) (l.0, length-set s.marks d len ∙ l.1) s.listed s.apart s.tied s.counts marks

pub save_means : (s : Bits) → s.depth < most_marks → (len : ℕ) → len ≡ length (on s) →
    drawn (room s.trail) (on s) s.gates s.width (set s.marks s.depth len) (s.depth + 1) ≡ saved (meaning s)
save_means s h len el =
    let d = s.depth in
    let z : d + 1 ≡ suc d = omega arith in
    let long : d < length s.marks = omega (arith, s.long.1) in
    let top : get_or (set s.marks d len) d 0 ≡ length (on s) = get_or-set_same s.marks d len 0 long ∙ el in
    same_meaning (drawn (room s.trail) (on s) s.gates s.width (set s.marks d len) (d + 1)) (saved (meaning s)) refl refl refl (λ _. refl)
    (ap (marks_of (on s) (set s.marks d len)) z
    ∙ ap₂ (λ (k : ℕ → ℕ) (ks : List (ℕ → ℕ)). k ∷ ks)
    (fun_ext (λ g. ap (λ m. length (gone_in g (take m (on s)))) top ∙ ap (λ l. length (gone_in g l)) (take_all (length (on s)) (on s) (omega arith))))
    (marks_set s.marks (on s) d len d (omega arith)))
