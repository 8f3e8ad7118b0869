-- A reader: its text, and how far it has come.
use Rattle.std.specs.Prelude.{ℕ, List}
use Rattle.text.specs.declared.reader.Reader.{Reader}

abbrev pub text_of : Reader → List ℕ
text_of r = r.text.now

abbrev pub place_of : Reader → ℕ
place_of r = r.at
