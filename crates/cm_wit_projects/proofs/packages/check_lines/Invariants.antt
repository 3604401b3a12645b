use Rattle.std.proofs.Common.{map}
use Rattle.cm_wit_projects_reading.specs.Views.{file_tree}
use Rattle.cm_wit_projects.specs.Files.{folders}
use Rattle.cm_wit_projects.specs.Packages.{folder_in, line_faults, package_of}
use Rattle.cm_wit_projects.proofs.EachLaws.{Checks}
use Rattle.cm_wit_projects.proofs.packages.check_lines.Given as goal

abbrev pub invariant-loop-number : goal.invariant-loop-number
invariant-loop-number l = Checks file_tree (λ n. line_faults (folder_in (folders l.groups) l.folder) l.folder (package_of (map file_tree l.files)) n) l.files l.number
