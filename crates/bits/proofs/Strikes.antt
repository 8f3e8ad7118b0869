-- One position leaves its gate.
use Rattle.std.proofs.Common.{◌≡◌, ℕ, ◌-◌, ◌<◌, ◌≤◌, min, false, not, ◌&&◌, eqb, List, [], ◌∷◌, ◌++◌, length, set, sym, refl, ap, ◌∙◌, subst, ⊎_elim, arith}
use Rattle.std.proofs.lemmas.List.{length-set}
use Rattle.std.proofs.lemmas.Bool.{cases_eq}
use Rattle.model.specs.Bounds.{most_cells}
use Rattle.model.specs.Families.{has}
use Rattle.stack.specs.Stacks.{room}
use Rattle.store.specs.Meaning.{appended, changed_at}
use Rattle.store.proofs.Meanings.{at_same, at_other, same_meaning}
use Rattle.rows.specs.declared.Row.{Row}
use Rattle.rows.specs.Rows.{lit, Holds}
use Rattle.bits.specs.Representation.{gone_in, row_at, count_at, marks_of}
use Rattle.bits.specs.Meanings.{drawn, meaning}
use Rattle.bits.specs.declared.domain.Domain.{Domain}
use Rattle.bits.specs.declared.entry.Record.{Record}
use Rattle.bits.specs.declared.Bits.{Bits}
use Rattle.bits.proofs.Rooms.{gone_shorter}
use Rattle.bits.proofs.Moves.{gone_same, gone_other, listed_push, apart_push, tied_push, counts_push, marks_grow, marks_push}
use Rattle.bits.proofs.Facts.{Facts, facts, on}

-- an open position leaves
module _ (s : Bits) (g p : ℕ) (hg : g < s.gates) (hp : p < s.width) (o : has (gone_in g (on s)) p ≡ false) where
  pub some_left : 1 ≤ count_at s.domains g
  some_left = omega (arith, s.counts (g, hg), gone_shorter s g p hg hp o)

  abbrev new : Record
  new = record { gate = g; position = p }

  module _ (xs' : List Record) (e : xs' ≡ on s ++ new ∷ []) (cap : ℕ) (ec : cap ≡ room s.trail) where
    pub strike_kept : (row : Row) → Holds row (λ q. lit (row_at s.domains g) q && not (eqb q p))
        → Facts cap xs' s.gates s.width (set s.domains g (record { row = row; count = count_at s.domains g - 1 })) s.marks s.depth
    strike_kept row h =
        let f = s.fit in
        let l = s.long in
        let G : List Record → Type 0 = λ xs. Facts cap xs s.gates s.width (set s.domains g (record { row = row; count = count_at s.domains g - 1 })) s.marks s.depth in
        let hr : g < length s.domains = omega (arith, l.0, f.0) in
        let d : Domain = record { row = row; count = count_at s.domains g - 1 } in
        subst G (sym e) (facts cap (on s ++ new ∷ []) s.gates s.width (set s.domains g (record { row = row; count = count_at s.domains g - 1 })) s.marks s.depth
        (f.0, f.1, omega (arith, f.2), f.3)
        (length-set s.domains g d ∙ l.0, l.1)
        (listed_push (on s) new s.gates s.width s.listed hg hp)
        (apart_push (on s) new s.apart o)
        (tied_push (on s) new s.gates s.width s.domains d hr s.tied h)
        (counts_push (on s) new s.gates s.width s.domains d hr s.counts hg refl)
        (marks_grow (on s) new s.marks s.depth s.marked))

    pub strike_means : drawn cap xs' s.gates s.width s.marks s.depth ≡ appended (meaning s) g (p ∷ [])
    strike_means =
        same_meaning (drawn cap xs' s.gates s.width s.marks s.depth) (appended (meaning s) g (p ∷ [])) (ap (λ c. min c most_cells) ec) refl refl
        (λ k. ap (gone_in k) e ∙ ⊎_elim
        (λ (d : k ≡ g). ap (λ j. gone_in j (on s ++ new ∷ [])) d ∙ gone_same g (on s) new refl
        ∙ sym (at_same (λ j. gone_in j (on s)) g (gone_in g (on s) ++ p ∷ [])) ∙ ap (changed_at (λ j. gone_in j (on s)) g (gone_in g (on s) ++ p ∷ [])) (sym d))
        (λ (ne : k ≡ g → ⊥). gone_other k (on s) new (λ d. ne (sym d)) ∙ sym (at_other (λ j. gone_in j (on s)) g k (gone_in g (on s) ++ p ∷ []) ne))
        (cases_eq k g))
        (ap (λ xs. marks_of xs s.marks s.depth) e
        ∙ marks_push s.marks (on s) (new ∷ []) s.depth (λ d l. (s.marked (d, d, omega arith, l)).1))
