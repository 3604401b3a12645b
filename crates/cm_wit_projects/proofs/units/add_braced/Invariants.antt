use Rattle.std.specs.List.{filter_map}
use Rattle.cm_lemmas.proofs.Lists.{Makes}
use Rattle.cm_wit_projects_reading.specs.Views.{file_item_tree, gated_tree}
use Rattle.cm_wit_projects.specs.Units.{braced_unit}
use Rattle.cm_wit_projects.specs.Views.{unit_view}
use Rattle.cm_wit_projects.proofs.units.add_braced.Given as goal

abbrev pub invariant-loop-gated : goal.invariant-loop-gated
invariant-loop-gated l = Makes (gated_tree file_item_tree) (λ n. filter_map (braced_unit l.folder l.number)) unit_view l.items l.gated-index l.initial.out.items l.out.items
