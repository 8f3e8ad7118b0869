-- A text as fields: a one-byte tag, a two-byte length with the high byte first, and a payload of that length.
use Rattle.std.specs.Prelude.{ℕ, ◌+◌, ◌-◌, ◌*◌, List, length, take, drop, Some, None, Ok, Err, Option, Result, nat_le, slice_index}
use Rattle.model.specs.declared.refusal.Refusal.{Refusal}
use Rattle.model.specs.declared.refusal.Refusal.TheVariants.{Truncated}
use Rattle.text.specs.Lengths.{with_payload}
use Rattle.text.specs.Tests.{when}
use Rattle.text.specs.declared.fault.Fault.{Fault}
use Rattle.text.specs.declared.field.Field.{Field}

-- one field: its kind, the place of its tag, and its payload's bytes
pub record Part (K : Type 0) : Type 0 where
  pub kind : K
  pub place : ℕ
  pub bytes : List ℕ

-- the field that a value of the code stands for
abbrev pub part : {K : Type 0} → Field K → Part K
part f = record { kind = f.kind; place = f.place; bytes = f.payload.now }

abbrev pub seen : {K : Type 0} → Result (Field K) Fault → Result (Part K) Fault
seen (Ok f) = Ok (part f)
seen (Err e) = Err e

abbrev pub refused : {X : Type 0} → Refusal → ℕ → Result X Fault
refused why place = Err (record { refusal = why; place = place })

-- a number of two bytes
abbrev pub two_bytes : ℕ → ℕ → ℕ
two_bytes high low = high * 256 + low

-- the tag at a place and the length behind it, if three bytes are left
abbrev pub prefix_at : List ℕ → ℕ → Option (ℕ × ℕ)
prefix_at text at = when (nat_le (at + 3) (length text)) (slice_index text at, two_bytes (slice_index text (at + 1)) (slice_index text (at + 2)))

abbrev pub with_kind : {K : Type 0} → Result K Refusal → ℕ → List ℕ → Result (Part K) Fault
with_kind (Ok k) at bytes = Ok (record { kind = k; place = at; bytes = bytes })
with_kind (Err why) at bytes = refused why at

-- the payload is the part of the text behind those three bytes
abbrev pub with_prefix : {K : Type 0} → (ℕ → ℕ → Result K Refusal) → List ℕ → ℕ → Option (ℕ × ℕ) → Result (Part K) Fault
with_prefix made text at None = refused Truncated at
with_prefix made text at (Some pre) = with_kind (with_payload made pre.0 pre.1 (length text - (at + 3))) at (take pre.1 (drop (at + 3) text))

-- the field whose tag stands at a place, or why there is none
unfoldable pub field_at : {K : Type 0} → (ℕ → ℕ → Result K Refusal) → List ℕ → ℕ → Result (Part K) Fault
field_at made text at = with_prefix made text at (prefix_at text at)

-- where a reader at a place stands once it was asked for the field there
abbrev pub next_at : {K : Type 0} → Result (Part K) Fault → ℕ → ℕ
next_at (Ok p) at = at + 3 + length p.bytes
next_at (Err e) at = at
