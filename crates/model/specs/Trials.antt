-- Worked examples of the definitions.
use Rattle.std.specs.Prelude.{ℕ, ◌&&◌, List, [], ◌∷◌, pos, negsuc, Some, None, nat_lt, slice_index_or}
use Rattle.model.specs.Families.{Family, has}
use Rattle.model.specs.Rules.{offset, near, total, NotAboveAdmits}
use Rattle.model.specs.Settled.{Largest}
use Rattle.model.specs.Plans.{Load}
use Rattle.model.specs.Settings.{Permitted, First}
use Rattle.model.specs.Calls.{strike, keep}
use Rattle.model.specs.Ledgers.{narrowed}

-- three gates of width 5: gate 1 is one past gate 0, gates 1 and 2 differ by at most 1, and gate 0 + gate 1 + 2 × gate 2 is 6 or 7
abbrev pub worked : Load
worked = record {
  plan = record { gates = 3; width = 5; rules = offset 1 0 (pos 1) ∷ near 1 2 1 ∷ total 6 7 ((0, 1) ∷ (1, 1) ∷ (2, 2) ∷ []) ∷ [] };
  start = λ g p. nat_lt g 3 && nat_lt p 5;
}

-- the domains, gate by gate
abbrev pub rows : List (List ℕ) → Family
rows ls g p = has (slice_index_or ls g []) p

abbrev pub worked_settled : Family
worked_settled = rows ((0 ∷ 1 ∷ 2 ∷ 3 ∷ []) ∷ (1 ∷ 2 ∷ 3 ∷ 4 ∷ []) ∷ (0 ∷ 1 ∷ 2 ∷ 3 ∷ []) ∷ [])

pub record Trials : Type 0 where
  pub below : NotAboveAdmits (negsuc 0) 3 4
  pub not_level : NotAboveAdmits (negsuc 0) 3 3 → ⊥
  pub settle : Largest worked.plan.rules worked.start worked_settled
  pub solve : First (Permitted worked.plan worked_settled) (Some (1 ∷ 2 ∷ 2 ∷ []))
  pub solve_struck : First (Permitted worked.plan (narrowed (strike 2 2) worked_settled)) None
  pub dead : Largest worked.plan.rules (narrowed (keep 2 []) worked.start) (rows [])
