use Rattle.cm_lemmas.proofs.Lists.{Makes}
use Rattle.cm_wit_projects_reading.specs.Views.{file_tree, package_name_tree}
use Rattle.cm_wit_projects.specs.Units.{units_from}
use Rattle.cm_wit_projects.specs.Views.{unit_view}
use Rattle.cm_wit_projects.proofs.units.add_named.Given as goal

abbrev pub invariant-loop-number : goal.invariant-loop-number
invariant-loop-number l = Makes file_tree (λ n. units_from l.folder n (package_name_tree l.name)) unit_view l.files l.number l.initial.out.items l.out.items
