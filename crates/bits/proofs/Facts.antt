-- All that a bit store's parts have to do with one another.
use Rattle.std.proofs.Common.{◌≡◌, ℕ, ◌*◌, ◌≤◌, ltb, List, [], length, get_or, replicate, ◌<◌, sym, ap, ◌∙◌, subst, arith}
use mathlib.Core.Bool.{and-true}
use Rattle.std.proofs.lemmas.List.{length-replicate, get_or-replicate}
use Rattle.model.specs.Bounds.{most_gates, most_width, most_marks}
use Rattle.stack.specs.Stacks.{items, room}
use Rattle.rows.specs.declared.Row.{Row}
use Rattle.rows.specs.Rows.{lit, Holds}
use Rattle.bits.specs.Representation.{blank, Fit, Long, Listed, Apart, Tied, Counts, Marks}
use Rattle.bits.specs.declared.domain.Domain.{Domain}
use Rattle.bits.specs.declared.entry.Record.{Record}
use Rattle.bits.specs.declared.Bits.{Bits}

-- all ghost fields of a store with these parts
abbrev pub Facts : ℕ → List Record → ℕ → ℕ → List Domain → List ℕ → ℕ → Type 0
Facts cap xs n w domains marks depth = record {
  fit : Fit cap n w depth;
  long : Long domains marks;
  listed : Listed xs n w;
  apart : Apart xs;
  tied : Tied xs n w domains;
  counts : Counts xs n w domains;
  marked : Marks xs marks depth;
}

pub facts : (cap : ℕ) (xs : List Record) (n w : ℕ) (domains : List Domain) (marks : List ℕ) (depth : ℕ)
    → Fit cap n w depth → Long domains marks → Listed xs n w → Apart xs → Tied xs n w domains → Counts xs n w domains → Marks xs marks depth
    → Facts cap xs n w domains marks depth
facts cap xs n w domains marks depth a b c d e f g = record { fit = a; long = b; listed = c; apart = d; tied = e; counts = f; marked = g }

-- what is on the trail
abbrev pub on : Bits → List Record
on s = items s.trail

-- just reset
pub reset_kept : (cap n w : ℕ) (xs : List Record) (row : Row) (marks : List ℕ) → xs ≡ [] → n ≤ most_gates → w ≤ most_width → n * w ≤ cap →
    Holds row (λ q. ltb q w) → length marks ≡ most_marks → Facts cap xs n w (replicate most_gates (record { row = row; count = w })) marks 0
reset_kept cap n w xs row marks e hn hw room h ls =
    let d : Domain = record { row = row; count = w } in
    let ds : List Domain = replicate most_gates d in
    let at : (g : ℕ) → g < n → get_or ds g blank ≡ d = λ g l. get_or-replicate most_gates g d blank (omega arith) in
    let G : List Record → Type 0 = λ ys. Facts cap ys n w ds marks 0 in
    subst G (sym e) (facts cap [] n w ds marks 0
    (hn, hw, room, omega arith)
    (length-replicate most_gates d, ls)
    (λ x. absurd (omega (arith, x.1)))
    (λ x. absurd (omega (arith, x.3)))
    (λ x. ap (λ (y : Domain). lit y.row x.1) (at x.0 x.2) ∙ h x.1 x.3 ∙ sym (and-true (ltb x.1 w)))
    (λ x. ap (λ (y : Domain). y.count) (at x.0 x.1) ∙ omega arith)
    (λ x. absurd (omega (arith, x.3))))
