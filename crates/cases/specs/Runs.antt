-- A closure that is run on the case of a line.
use Rattle.std.specs.Prelude.{◌≡◌, ℕ, List, Result, Ok}
use Rattle.cases.specs.declared.case.Case.{Case}
use Rattle.cases.specs.Cases.{case_of}

-- given the case that the line says, the closure may answer that all went well, and go from the one state to the other
abbrev pub RunsOn : {F E : Type 0} → (F → Case → Result Unit E → F → Type 0) → F → List ℕ → F → Type 0
RunsOn step before line after =
    (case : Case)
    × (case_of line ≡ Ok (case.name.now, case.input.items))
    × step before case (Ok tt) after
