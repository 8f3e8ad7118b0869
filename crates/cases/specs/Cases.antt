-- What a line says.
use Rattle.std.specs.Prelude.{ℕ, nat_lt, if◌then◌else◌, List, length, Result, Ok, Err}
use Rattle.std.specs.List.{before_first, after_first, position_or_len}
use Rattle.cases.specs.declared.error.CaseError.{CaseError}
use Rattle.cases.specs.declared.error.CaseError.TheVariants.{NoName}
use Rattle.cases.specs.Hexadecimal.{is_space, bytes_of}

-- a name, and the bytes of an input, if it has any
abbrev pub named : List ℕ → Result (List ℕ) CaseError → Result (List ℕ × List ℕ) CaseError
named name (Ok bytes) = Ok (name, bytes)
named name (Err e) = Err e

-- the name before the first space, and the input behind it
abbrev pub case_of : List ℕ → Result (List ℕ × List ℕ) CaseError
case_of line =
    if nat_lt (position_or_len is_space line) (length line)
    then named (before_first is_space line) (bytes_of (after_first is_space line))
    else Err NoName
