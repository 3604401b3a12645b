use Rattle.std.proofs.Common.{[], map}
use Rattle.cm_lemmas.proofs.Lists.{Makes}
use Rattle.cm_wit_projects_reading.specs.Views.{file_tree}
use Rattle.cm_wit_projects.specs.Units.{units_of}
use Rattle.cm_wit_projects.specs.Views.{unit_view}
use Rattle.cm_wit_projects.proofs.units.units_of.Given as goal

abbrev pub invariant-loop-folder : goal.invariant-loop-folder
invariant-loop-folder l = Makes (λ fs. map file_tree fs.items) (λ k. units_of k) unit_view l.all l.folder [] l.out.items
