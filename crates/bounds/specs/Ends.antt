-- The ends of the domains, and what is remembered of them.
use Rattle.std.specs.Prelude.{◌≡◌, ◌≢◌, ℕ, ◌<◌, ◌≤◌, true, false, T, List, [], ◌∷◌, length, Some, None, Option, IfSome, slice_index_or}
use Rattle.std.specs.Option.{option_map}
use Rattle.store.specs.Meaning.{Meaning, domains, cut}
use Rattle.store.specs.Calls.{Least, Greatest}
use Rattle.bounds.specs.declared.ends.Ends.{Ends}
use Rattle.bounds.specs.declared.ends.Memory.{Memory}
use Rattle.bounds.specs.declared.ends.Span.{Span}

-- the span goes from the lowest position open to the gate to the highest; there is none where none is open
pub record SpanOf (m : Meaning) (g : ℕ) (span : Option Span) : Type 0 where
  pub lowest : Least m g (option_map (λ s. s.lowest) span)
  pub highest : Greatest m g (option_map (λ s. s.highest) span)

-- the greatest position open to the gate of those from `from` to `to`, or none where none of them is open
abbrev pub LastOpen : Meaning → ℕ → ℕ → ℕ → Option ℕ → Type 0
LastOpen m g from to None = (q : ℕ) → from ≤ q → q ≤ to → domains m g q ≡ false
LastOpen m g from to (Some p) =
    (from ≤ p) × (p ≤ to) × (domains m g p ≡ true) × ((q : ℕ) → p < q → q ≤ to → domains m g q ≡ false)

-- the position lies in the span
abbrev pub Inside : Option Span → ℕ → Type 0
Inside None p = ⊥
Inside (Some s) p = (s.lowest ≤ p) × (p ≤ s.highest)

-- all that is open to the gate lies in the span
abbrev pub Covers : Meaning → ℕ → Option Span → Type 0
Covers m g span = (p : ℕ) → T (domains m g p) → Inside span p

-- only the gate's span may be another
abbrev pub SameBut : ℕ → Ends → Ends → Type 0
SameBut g old new = (h : ℕ) → h ≢ g → slice_index_or new.spans h None ≡ slice_index_or old.spans h None

-- each gate's span is that of its open positions
abbrev pub Right : Meaning → Ends → Type 0
Right m ends = (g : ℕ) → g < m.gates → SpanOf m g (slice_index_or ends.spans g None)

-- where the table has ends for a mark, they are right for what it goes back to; a mark's place is how many are older
abbrev pub Held : Meaning → List (ℕ → ℕ) → List (Option Ends) → Type 0
Held m [] table = Unit {0}
Held m (k ∷ ks) table =
    IfSome (slice_index_or table (length ks) None) (Right (cut m (k ∷ ks))) × Held (cut m (k ∷ ks)) ks table

-- what is remembered is right for this meaning
pub record Remembered (m : Meaning) (x : Memory) : Type 0 where
  pub ends : Right m x.ends
  pub marks : Held m m.marks x.saved
