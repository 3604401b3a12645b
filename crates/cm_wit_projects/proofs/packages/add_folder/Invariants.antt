use Rattle.std.proofs.Common.{◌≡◌, map, take}
use Rattle.std.specs.List.{list_any}
use Rattle.cm_lemmas.proofs.Lists.{Makes}
use Rattle.cm_wit_projects_reading.specs.Views.{file_tree}
use Rattle.cm_wit_projects.specs.Files.{folders}
use Rattle.cm_wit_projects.specs.Packages.{folder_in, has_line, packages_from}
use Rattle.cm_wit_projects.specs.Views.{package_view}
use Rattle.cm_wit_projects.proofs.packages.add_folder.Given as goal

abbrev pub invariant-loop-number : goal.invariant-loop-number
invariant-loop-number l = record {
  had : l.had ≡ list_any has_line (take l.number (map file_tree l.files));
  makes : Makes file_tree (λ n. packages_from (folder_in (folders l.groups) l.folder) (map file_tree l.files) l.folder n) package_view l.files l.number l.initial.out.items l.out.items;
}
