-- Texts that are packages.
use Rattle.std.specs.Prelude.{◌≡◌, ℕ, List, None, Ok}
use Rattle.cm_wit_tokens.specs.Whole.{text_reads}
use Rattle.cm_wit_names.specs.FileMentions.{mentions}
use Rattle.cm_wit_names.specs.Rules.{IsFirstFault}
use Rattle.cm_wit_reading.specs.Files.{file}
use Rattle.cm_wit_reading.specs.Trees.{File}

-- A text is a package: it is this file, and the file's names violate no rule.
abbrev pub IsPackage : List ℕ → File → Type 0
IsPackage text f = (text_reads file text ≡ Ok f) × IsFirstFault (mentions f) None

-- Some text is this package.
abbrev pub IsWritten : File → Type 0
IsWritten f = (text : List ℕ) × IsPackage text f
