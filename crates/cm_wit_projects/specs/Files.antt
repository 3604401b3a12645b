-- The files that the texts of a project spell (WIT.md, "WIT Packages"; `wit-file`).
use Rattle.std.specs.Prelude.{ℕ, List, map, Result, Ok, Err}
use Rattle.std.specs.Borrow.{Bor}
use Rattle.cm_wit_tokens.specs.declared.fault.WitFault.{WitFault}
use Rattle.cm_wit_projects_reading.specs.Files.{file}
use Rattle.cm_wit_projects_reading.specs.Texts.{source_reads}
use Rattle.cm_wit_projects_reading.specs.Trees.{File}
use Rattle.cm_wit_projects.specs.declared.fault.ResolveFault.{ResolveFault}
use Rattle.cm_wit_projects.specs.declared.source.Source.{Source}
use Rattle.cm_wit_projects.specs.Faults.{each_from, fault_in}

-- the texts of a folder, and those of folders
abbrev pub texts : List Source → List (List ℕ)
texts sources = map (λ s. s.text.now) sources

abbrev pub folders : List (Bor (List Source)) → List (List (List ℕ))
folders groups = map (λ g. texts g.now) groups

-- what the n-th text of a folder spells, or its first fault
abbrev pub read_as : ℕ → ℕ → Result File WitFault → Result File ResolveFault
read_as folder n (Ok f) = Ok f
read_as folder n (Err e) = Err (fault_in folder n e)

abbrev pub file_of : ℕ → ℕ → List ℕ → Result File ResolveFault
file_of folder n text = read_as folder n (source_reads file text)

-- the files that the texts of a folder spell, from the n-th on, or the first fault
abbrev pub files_from : ℕ → ℕ → List (List ℕ) → Result (List File) ResolveFault
files_from folder n ts = each_from (file_of folder) n ts

-- those of folders, from this one on
abbrev pub folders_from : ℕ → List (List (List ℕ)) → Result (List (List File)) ResolveFault
folders_from folder gs = each_from (λ k. files_from k 0) folder gs
