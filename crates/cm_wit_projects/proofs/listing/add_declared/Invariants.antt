use Rattle.std.specs.List.{filter_map}
use Rattle.cm_lemmas.proofs.Lists.{Makes}
use Rattle.cm_wit_projects.specs.Listed.{declared_as}
use Rattle.cm_wit_projects.specs.ListedViews.{declared_view}
use Rattle.cm_wit_projects.specs.Views.{item_view}
use Rattle.cm_wit_projects.proofs.listing.add_declared.Given as goal

abbrev pub invariant-loop-item : goal.invariant-loop-item
invariant-loop-item l = Makes item_view (λ n. filter_map (declared_as l.unit)) declared_view l.items l.item-index l.initial.out.items l.out.items
