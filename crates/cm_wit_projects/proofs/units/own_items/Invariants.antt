use Rattle.std.proofs.Common.{[]}
use Rattle.std.specs.List.{filter_map}
use Rattle.cm_lemmas.proofs.Lists.{Makes}
use Rattle.cm_wit_projects_reading.specs.Views.{file_item_tree, gated_tree}
use Rattle.cm_wit_projects.specs.Units.{own_item}
use Rattle.cm_wit_projects.specs.Views.{item_view}
use Rattle.cm_wit_projects.proofs.units.own_items.Given as goal

abbrev pub invariant-loop-gated : goal.invariant-loop-gated
invariant-loop-gated l = Makes (gated_tree file_item_tree) (λ n. filter_map own_item) item_view l.items l.gated-index [] l.own.items
