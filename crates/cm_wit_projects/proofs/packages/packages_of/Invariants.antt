use Rattle.std.proofs.Common.{[], map}
use Rattle.cm_lemmas.proofs.Lists.{Makes}
use Rattle.cm_wit_projects_reading.specs.Views.{file_tree}
use Rattle.cm_wit_projects.specs.Files.{folders}
use Rattle.cm_wit_projects.specs.Packages.{packages_of}
use Rattle.cm_wit_projects.specs.Views.{package_view}
use Rattle.cm_wit_projects.proofs.packages.packages_of.Given as goal

abbrev pub invariant-loop-folder : goal.invariant-loop-folder
invariant-loop-folder l = Makes (λ fs. map file_tree fs.items) (λ k. packages_of (folders l.groups) k) package_view l.all l.folder [] l.out.items
