-- What leaves a gate when a row of positions is swept out of it.
use Rattle.std.proofs.Common.{◌≡◌, ℕ, ◌+◌, ◌<◌, Bool, not, ◌&&◌, eqb, List, [], ◌∷◌, length, get_or, take, Ok, sym, ap, ◌∙◌, subst}
use Rattle.std.proofs.lemmas.List.{take_more}
use Rattle.model.specs.Families.{has}
use Rattle.model.proofs.Meaning.{has_append}
use Rattle.store.specs.Meaning.{appended}
use Rattle.store.specs.Calls.{Kept}
use Rattle.store.proofs.Sweeps.{outs, sweep_leaves}
use Rattle.rows.specs.declared.Row.{Row}
use Rattle.rows.specs.Rows.{lit}
use Rattle.bits.specs.Representation.{row_at, count_at}
use Rattle.bits.specs.Meanings.{meaning}
use Rattle.bits.specs.declared.Bits.{Bits}
use Rattle.bits.proofs.Moves.{both_not}
use Rattle.bits.proofs.Openings.{open_bit, count_is}

-- the row is the gate's without the positions that are kept
pub swept_kept : (s s' : Bits) (g : ℕ) → g < s.gates → (out : Row) (kept : ℕ → Bool)
    → ((q : ℕ) → q < s.width → lit out q ≡ (lit (row_at s.domains g) q && not (kept q)))
    → meaning s' ≡ appended (meaning s) g (outs (meaning s) g (lit out) s.width)
    → Kept (meaning s) g kept (Ok (count_at s'.domains g)) (meaning s')
swept_kept s s' g hg out kept h e = (
  outs (meaning s) g (lit out) s.width,
  sweep_leaves (meaning s) g (lit out) kept (λ q l o. h q l ∙ ap (λ b. b && not (kept q)) (open_bit s g q hg l o)),
  e,
  ap Ok (count_is s' g (subst (λ n. g < n) (sym (ap (λ m. m.gates) e)) hg)),
)

-- one listed position more is taken out of a row
pub removed_more : (a : Bool) (q i : ℕ) (list : List ℕ) → i < length list
    → ((a && not (has (take i list) q)) && not (eqb q (get_or list i 0))) ≡ (a && not (has (take (i + 1) list) q))
removed_more a q i list l =
    both_not a (has (take i list) q) (eqb q (get_or list i 0))
    ∙ ap (λ x. a && not x) (sym (ap (λ ys. has ys q) (take_more list i 0 l) ∙ has_append (take i list) (get_or list i 0 ∷ []) q))
