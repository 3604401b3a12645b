use Rattle.cm_wit_projects_reading.specs.Views.{file_tree}
use Rattle.cm_wit_projects.specs.Files.{file_of}
use Rattle.cm_wit_projects.proofs.EachLaws.{Reads}
use Rattle.cm_wit_projects.proofs.files.files_of.Given as goal

abbrev pub invariant-loop-number : goal.invariant-loop-number
invariant-loop-number l = Reads file_tree (λ s. s.text.now) (file_of l.folder) l.sources l.number l.files.items
