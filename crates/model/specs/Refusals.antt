-- The numbers by which refusals are told.
use Rattle.std.specs.Prelude.{ℕ}
use Rattle.model.specs.declared.refusal.Refusal.{Refusal}
use Rattle.model.specs.declared.refusal.Refusal.TheVariants.{Truncated, UnknownTag, BadLength, Misplaced, OutOfRange, TooManyRules, NoRoom, NoPlan, NoGate, NoPosition, TooManySaves, NoSave, NoReader, ListTooShort}

abbrev pub number_of : Refusal → ℕ
number_of Truncated = 1
number_of UnknownTag = 2
number_of BadLength = 3
number_of Misplaced = 4
number_of OutOfRange = 5
number_of TooManyRules = 6
number_of NoRoom = 7
number_of NoPlan = 8
number_of NoGate = 9
number_of NoPosition = 10
number_of TooManySaves = 11
number_of NoSave = 12
number_of NoReader = 13
number_of ListTooShort = 14
