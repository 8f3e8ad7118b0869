-- A table of notes.
use Rattle.std.specs.Prelude.{ℕ, List, [], slice_index, slice_index_or}
use Rattle.book.specs.declared.Notes.{Notes}

-- of a reader and a gate
abbrev pub notes_in : List (List ℕ) → ℕ → ℕ → ℕ
notes_in table r g = slice_index (slice_index_or table r []) g

-- what is read beside a table
abbrev pub blank : Notes
blank = record { rows = [] }
