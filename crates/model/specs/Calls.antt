-- Calls on a planner, and which of a string of accepted calls stand.
use Rattle.std.specs.Prelude.{◌≡◌, ℕ, Bool, not, ◌&&◌, ◌||◌, T, List, [], ◌∷◌, ◌++◌, ◌==◌, ◌≢◌}
use Rattle.model.specs.Families.{has, ◌∈◌}
use Rattle.model.specs.Settings.{at}

-- strike and bind have a gate and a position, keep a gate and a list of positions
pub data Narrowing : Type 0 where
  strike : ℕ → ℕ → Narrowing
  bind : ℕ → ℕ → Narrowing
  keep : ℕ → List ℕ → Narrowing

-- A call that alters nothing: changes has a reader and a gate, show a gate, and each of the three the length of the caller's list.
pub data Question : Type 0 where
  changes : ℕ → ℕ → ℕ → Question
  show : ℕ → ℕ → Question
  solve : ℕ → Question

-- Note has a reader.
pub data Call : Type 0 where
  narrow : Narrowing → Call
  save : Call
  restore : Call
  note : ℕ → Call
  settle : Call
  ask : Question → Call

-- Does it leave position q of gate h? A strike takes its position out of its gate's domain, a bind all others, a keep all that its list lacks.
abbrev pub leaves : Narrowing → ℕ → ℕ → Bool
leaves (strike g p) h q = not (h == g && q == p)
leaves (bind g p) h q = not (h == g) || q == p
leaves (keep g ps) h q = not (h == g) || has ps q

-- a setting obeys a strike whose gate it sets elsewhere, a bind whose position it uses, a keep whose list has its position
abbrev pub Obeys : List ℕ → Narrowing → Type 0
Obeys setting (strike g p) = at setting g ≡ p → ⊥
Obeys setting (bind g p) = at setting g ≡ p
Obeys setting (keep g ps) = T (has ps (at setting g))

-- a call that is no bracket
abbrev pub Plain : Call → Type 0
Plain c = (c ≢ save) × (c ≢ restore)

-- A string in which each save has its restore, and each restore its save.
pub data Closed : List Call → Type 0 where
  empty : Closed []
  plain : {c : Call} {after : List Call} → Plain c → Closed after → Closed (c ∷ after)
  pair : {inner after : List Call} → Closed inner → Closed after → Closed (save ∷ (inner ++ (restore ∷ after)))

-- The accepted calls, and those of them that stand. A save and its restore are taken back, with all that lies between them.
-- Of what is left each stays; none is a restore.
pub data Stands : List Call → List Call → Type 0 where
  end : Stands [] []
  taken_back : {inner after standing : List Call} → Closed inner → Stands after standing → Stands (save ∷ (inner ++ (restore ∷ after))) standing
  stays : {c : Call} {after standing : List Call} → (c ≢ restore) → Stands after standing → Stands (c ∷ after) (c ∷ standing)

-- a settle stands behind all strikes, binds and keeps
pub record SettleBehind (standing : List Call) : Type 0 where
  pub first : List Call
  pub last : List Call
  pub so : standing ≡ first ++ (settle ∷ last)
  pub none_after : (c : Narrowing) → narrow c ∈ last → ⊥

-- the same strikes, binds and keeps stand
abbrev pub SameNarrowings : List Call → List Call → Type 0
SameNarrowings a b = (c : Narrowing) → (narrow c ∈ a → narrow c ∈ b) × (narrow c ∈ b → narrow c ∈ a)
