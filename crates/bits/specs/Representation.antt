-- How the bits and the trail of a bit store stand for its gates.
use Rattle.std.specs.Prelude.{◌≡◌, ℕ, zero, suc, ◌-◌, ◌*◌, ◌<◌, ◌≤◌, not, ◌&&◌, List, [], ◌∷◌, map, length, take, filter, nat_eq, nat_lt, slice_index, slice_index_or}
use Rattle.model.specs.Bounds.{most_gates, most_width, most_marks}
use Rattle.model.specs.Families.{has}
use Rattle.rows.specs.declared.Row.{Row}
use Rattle.rows.specs.Rows.{lit}
use Rattle.bits.specs.declared.domain.Domain.{Domain}
use Rattle.bits.specs.declared.entry.Record.{Record}

-- the positions of gate g on a trail
abbrev pub gone_in : ℕ → List Record → List ℕ
gone_in g xs = map (λ r. r.position) (filter (λ r. nat_eq r.gate g) xs)

-- what stands beyond the end of a trail, and of the domains
abbrev pub bare : Record
bare = record { gate = 0; position = 0 }

abbrev pub blank : Domain
blank = record { row = record { words = [] }; count = 0 }

abbrev pub row_at : List Domain → ℕ → Row
row_at domains g = (slice_index_or domains g blank).row

abbrev pub count_at : List Domain → ℕ → ℕ
count_at domains g = (slice_index_or domains g blank).count

-- the trail has room for every position of every gate
abbrev pub Fit : ℕ → ℕ → ℕ → ℕ → Type 0
Fit room n w depth = (n ≤ most_gates) × (w ≤ most_width) × (n * w ≤ room) × (depth ≤ most_marks)

abbrev pub Long : List Domain → List ℕ → Type 0
Long domains marks = (length domains ≡ most_gates) × (length marks ≡ most_marks)

-- each record names a gate and a position that there are
abbrev pub Listed : List Record → ℕ → ℕ → Type 0
Listed xs n w = (x : (i : ℕ) × (i < length xs)) → ((slice_index_or xs x.0 bare).gate < n) × ((slice_index_or xs x.0 bare).position < w)

-- no position leaves its gate twice
abbrev pub Apart : List Record → Type 0
Apart xs = (x : (g : ℕ) × (i : ℕ) × (j : ℕ) × (i < length (gone_in g xs)) × (j < length (gone_in g xs)) × (slice_index (gone_in g xs) i ≡ slice_index (gone_in g xs) j)) → x.1 ≡ x.2

-- a bit is set where the position is open
abbrev pub Tied : List Record → ℕ → ℕ → List Domain → Type 0
Tied xs n w domains = (x : (g : ℕ) × (p : ℕ) × (g < n) × (p < most_width)) → lit (row_at domains x.0) x.1 ≡ (nat_lt x.1 w && not (has (gone_in x.0 xs) x.1))

abbrev pub Counts : List Record → ℕ → ℕ → List Domain → Type 0
Counts xs n w domains = (x : (g : ℕ) × (g < n)) → count_at domains x.0 ≡ w - length (gone_in x.0 xs)

-- marks rise, and none passes the trail
abbrev pub Marks : List Record → List ℕ → ℕ → Type 0
Marks xs marks depth = (x : (d : ℕ) × (e : ℕ) × (d ≤ e) × (e < depth)) → (slice_index marks x.0 ≤ slice_index marks x.1) × (slice_index marks x.1 ≤ length xs)

-- what the first d marks mean, the newest first
abbrev pub marks_of : List Record → List ℕ → ℕ → List (ℕ → ℕ)
marks_of xs marks zero = []
marks_of xs marks (suc d) = (λ h. length (gone_in h (take (slice_index marks d) xs))) ∷ marks_of xs marks d
