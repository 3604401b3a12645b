use Rattle.std.proofs.Common.{map}
use Rattle.cm_wit_projects_reading.specs.Views.{file_tree}
use Rattle.cm_wit_projects.specs.Files.{folders}
use Rattle.cm_wit_projects.specs.Packages.{folder_faults}
use Rattle.cm_wit_projects.proofs.EachLaws.{Checks}
use Rattle.cm_wit_projects.proofs.packages.check_folders.Given as goal

abbrev pub invariant-loop-folder : goal.invariant-loop-folder
invariant-loop-folder l = Checks (λ fs. map file_tree fs.items) (λ k. folder_faults (folders l.groups) k) l.all l.folder
