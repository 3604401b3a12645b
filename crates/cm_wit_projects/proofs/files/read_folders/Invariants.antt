use Rattle.std.proofs.Common.{map}
use Rattle.cm_wit_projects_reading.specs.Views.{file_tree}
use Rattle.cm_wit_projects.specs.Files.{files_from, texts}
use Rattle.cm_wit_projects.proofs.EachLaws.{Reads}
use Rattle.cm_wit_projects.proofs.files.read_folders.Given as goal

abbrev pub invariant-loop-folder : goal.invariant-loop-folder
invariant-loop-folder l = Reads (λ fs. map file_tree fs.items) (λ g. texts g.now) (λ k. files_from k 0) l.groups l.folder l.all.items
