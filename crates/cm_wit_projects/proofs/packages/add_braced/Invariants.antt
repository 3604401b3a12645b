use Rattle.std.specs.List.{filter_map}
use Rattle.cm_lemmas.proofs.Lists.{Makes}
use Rattle.cm_wit_projects_reading.specs.Views.{file_item_tree, gated_tree}
use Rattle.cm_wit_projects.specs.Packages.{braced_package}
use Rattle.cm_wit_projects.specs.Views.{package_view}
use Rattle.cm_wit_projects.proofs.packages.add_braced.Given as goal

abbrev pub invariant-loop-item : goal.invariant-loop-item
invariant-loop-item l = Makes (gated_tree file_item_tree) (λ n. filter_map (braced_package l.folder l.number)) package_view l.items l.item-index l.initial.out.items l.out.items
