-- The numbers of texts.
use Rattle.std.specs.Prelude.{ℕ, List, Option}
use Rattle.std.specs.List.{position_from}
use Rattle.std.specs.Str.{bytes_eq}
use Rattle.cm_names.specs.TextTables.{texts_of}
use Rattle.cm_names.specs.declared.text_numbers.TextNumbers.{TextNumbers}

-- the number of a text, if it has one: how many texts stand before it
abbrev pub number_in : List (List ℕ) → List ℕ → Option ℕ
number_in texts text = position_from (bytes_eq text) 0 texts

abbrev pub number_of : TextNumbers → List ℕ → Option ℕ
number_of table text = number_in (texts_of table.texts) text
