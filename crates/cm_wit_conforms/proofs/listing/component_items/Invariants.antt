use Rattle.std.proofs.Common.{map, take}
use Rattle.cm_wit_conforms.specs.Listings.{AreNames}
use Rattle.cm_wit_conforms.proofs.listing.component_items.Given as goal

abbrev pub invariant-loop-item : goal.invariant-loop-item
invariant-loop-item l = AreNames l.list (map (λ i. i.name) (take l.item-index l.items))
