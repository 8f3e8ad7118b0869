-- What stands for an error of the hexadecimal reader.
use Rattle.hex.specs.declared.error.FromHexError.{FromHexError}
use Rattle.hex.specs.declared.error.FromHexError.TheVariants.{InvalidHexCharacter, OddLength, InvalidStringLength}
use Rattle.hex.specs.declared.error.FromHexError.TheVariants as hex
use Rattle.cases.specs.declared.error.CaseError.{CaseError}
use Rattle.cases.specs.declared.error.CaseError.TheVariants.{NotHexadecimal, OutOfMemory}

-- want of memory stays what it is, and all else is text that is not hexadecimal
abbrev pub error_of : FromHexError → CaseError
error_of (InvalidHexCharacter c i) = NotHexadecimal
error_of OddLength = NotHexadecimal
error_of InvalidStringLength = NotHexadecimal
error_of hex.OutOfMemory = OutOfMemory
