use Rattle.std.proofs.Common.{[]}
use Rattle.cm_lemmas.proofs.Lists.{Makes}
use Rattle.cm_wit_projects_reading.specs.Views.{gated_tree, package_item_tree}
use Rattle.cm_wit_projects.specs.Views.{item_view}
use Rattle.cm_wit_projects.proofs.units.braced_items.Given as goal

abbrev pub invariant-loop-gated : goal.invariant-loop-gated
invariant-loop-gated l = Makes (gated_tree package_item_tree) (λ n xs. xs) item_view l.items l.gated-index [] l.all.items
