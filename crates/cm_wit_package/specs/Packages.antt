-- Packages: files whose names violate no rule.
use Rattle.std.specs.Prelude.{◌≡◌, ◌⊎◌, ℕ, List, Some, Result, Ok, Err, MatchResult}
use Rattle.cm_wit_tokens.specs.declared.fault.WitFault.{WitFault}
use Rattle.cm_wit_tokens.specs.Whole.{IsMemory, text_reads}
use Rattle.cm_wit_names.specs.FileMentions.{mentions}
use Rattle.cm_wit_names.specs.Rules.{IsFirstFault}
use Rattle.cm_wit_reading.specs.Files.{file}
use Rattle.cm_wit_reading.specs.Trees.{File}
use Rattle.cm_wit_package.specs.declared.package.Package.{Package}
use Rattle.cm_wit_package.specs.PackageViews.{package_tree}
use Rattle.cm_wit_package.specs.Places.{name_place}
use Rattle.cm_wit_package.specs.Texts.{IsPackage}

-- The first fault of the names of a text that is a file, at the name.
abbrev pub IsNameFault : List ℕ → WitFault → Type 0
IsNameFault text e = (f : File) × (n : ℕ) × (text_reads file text ≡ Ok f)
    × IsFirstFault (mentions f) (Some (n, e.reason)) × (e.at ≡ name_place text n)

-- Want of memory, or the first fault of a text that is no package: where it is no file the first
-- fault of that, else the first fault of its names.
abbrev pub IsRefused : List ℕ → WitFault → Type 0
IsRefused text e = IsMemory e ⊎ ((text_reads file text ≡ Err e) ⊎ IsNameFault text e)

-- A function answered the package that a text is, or why it is none.
abbrev pub IsParsed : List ℕ → Result Package WitFault → Type 0
IsParsed text result =
    MatchResult result (λ p. IsPackage text (package_tree p)) (IsRefused text)
