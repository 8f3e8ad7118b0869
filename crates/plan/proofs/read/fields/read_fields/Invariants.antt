use Rattle.std.proofs.Common.{◌≡◌, ◌-◌, length}
use Rattle.text.specs.Readers.{text_of, place_of}
use Rattle.plan.specs.Drafts.{Underway}
use Rattle.plan.proofs.read.fields.read_fields.Given as goal

abbrev pub invariant-loop-field : goal.invariant-loop-field
invariant-loop-field l = (text_of l.reader ≡ l.text) × Underway l.text (place_of l.reader) l.draft

abbrev pub decreases-loop-field : goal.decreases-loop-field
decreases-loop-field l = length l.text - place_of l.reader
