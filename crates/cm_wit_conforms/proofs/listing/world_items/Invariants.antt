use Rattle.std.proofs.Common.{map, take}
use Rattle.cm_types_arena.specs.SharedNames.{text_in}
use Rattle.cm_wit_conforms.specs.Listings.{AreNames, HasFrontsOf}
use Rattle.cm_wit_conforms.proofs.listing.world_items.Given as goal

abbrev pub invariant-loop-item : goal.invariant-loop-item
invariant-loop-item l = record {
  fronts : HasFrontsOf l.fronts l.list;
  names : AreNames l.list (map (λ i. text_in l.fronts i.name) (take l.item-index l.items));
}
