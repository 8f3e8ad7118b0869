-- The fields of calls, which stand behind a plan: the tag of each, the lengths that it allows, and the call that its payload says.
use Rattle.std.specs.Prelude.{ℕ, ◌+◌, Bool, cond, List, drop, Some, None, Ok, Err, codes, Option, Result, ◌==◌, slice_index}
use Rattle.model.specs.Bounds.{most_width}
use Rattle.model.specs.declared.refusal.Refusal.{Refusal}
use Rattle.model.specs.declared.refusal.Refusal.TheVariants.{UnknownTag, BadLength}
use Rattle.model.specs.Calls as call
use Rattle.model.specs.Calls.{Call, narrow, ask}
use Rattle.text.specs.Tests.{within}
use Rattle.console_calls.specs.declared.call.CallKind.{CallKind}
use Rattle.console_calls.specs.declared.call.CallKind.TheVariants.{Strike, Bind, Keep, Save, Restore, Note, Changes, Show}

-- the call that a tag names
abbrev pub named : ℕ → Option CallKind
named tag =
    cond (tag == 0x11) (Some Strike)
    (cond (tag == 0x12) (Some Bind)
    (cond (tag == 0x13) (Some Keep)
    (cond (tag == 0x14) (Some Save)
    (cond (tag == 0x15) (Some Restore)
    (cond (tag == 0x16) (Some Note)
    (cond (tag == 0x17) (Some Changes)
    (cond (tag == 0x1a) (Some Show) None)))))))

-- one byte a number; keep has a gate, and any number of positions up to the greatest width
abbrev pub allows : CallKind → ℕ → Bool
allows Strike len = len == 2
allows Bind len = len == 2
allows Keep len = within 1 (1 + most_width) len
allows Save len = len == 0
allows Restore len = len == 0
allows Note len = len == 1
allows Changes len = len == 2
allows Show len = len == 1

-- the kind that a tag and a length make: an unknown tag is told before a length
abbrev pub call_kind : ℕ → ℕ → Result CallKind Refusal
call_kind tag len = elim (named tag) [ Some k ↦ cond (allows k len) (Ok k) (Err BadLength) | None ↦ Err UnknownTag ]

-- the word of a call's line
abbrev pub word_of : CallKind → List ℕ
word_of Strike = codes "strike"
word_of Bind = codes "bind"
word_of Keep = codes "keep"
word_of Save = codes "save"
word_of Restore = codes "restore"
word_of Note = codes "note"
word_of Changes = codes "changes"
word_of Show = codes "show"

-- the call that a payload says; changes and show are asked with a list of the greatest width
abbrev pub call_of : CallKind → List ℕ → Call
call_of Strike bytes = narrow (call.strike (slice_index bytes 0) (slice_index bytes 1))
call_of Bind bytes = narrow (call.bind (slice_index bytes 0) (slice_index bytes 1))
call_of Keep bytes = narrow (call.keep (slice_index bytes 0) (drop 1 bytes))
call_of Save bytes = call.save
call_of Restore bytes = call.restore
call_of Note bytes = call.note (slice_index bytes 0)
call_of Changes bytes = ask (call.changes (slice_index bytes 0) (slice_index bytes 1) most_width)
call_of Show bytes = ask (call.show (slice_index bytes 0) most_width)
