-- The fields of calls, which stand behind a plan. No tag of a call is known yet.
use Rattle.std.specs.Prelude.{ℕ, Err, Result}
use Rattle.model.specs.declared.refusal.Refusal.{Refusal}
use Rattle.model.specs.declared.refusal.Refusal.TheVariants.{UnknownTag}
use Rattle.console.specs.declared.call.CallKind.{CallKind}

abbrev pub call_kind : ℕ → ℕ → Result CallKind Refusal
call_kind tag len = Err UnknownTag
