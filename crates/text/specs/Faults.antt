-- How a fault is told.
use Rattle.std.specs.Prelude.{ℕ, List, ◌++◌, codes, decimal}
use Rattle.model.specs.Refusals.{number_of}
use Rattle.text.specs.declared.fault.Fault.{Fault}

-- the number of the refusal, and the place
abbrev pub fault_text : Fault → List ℕ
fault_text e = decimal (number_of e.refusal) ++ (codes " at " ++ decimal e.place)
