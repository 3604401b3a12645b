-- The texts of a table.
use Rattle.std.specs.Prelude.{ℕ, List, map}
use Rattle.std.specs.String.{string_bytes}
use Rattle.cm_names.specs.declared.texts.TextTable.{TextTable}

-- the texts, by number
abbrev pub texts_of : TextTable → List (List ℕ)
texts_of table = map string_bytes table.texts.items
