use Rattle.std.proofs.Common.{map, take}
use Rattle.cm_types_arena.specs.SharedNames.{text_in}
use Rattle.cm_wit_conforms.specs.Listings.{AreNames, HasFrontsOf}
use Rattle.cm_wit_conforms.proofs.listing.world_externs.Given as goal

abbrev pub invariant-loop-each : goal.invariant-loop-each
invariant-loop-each l = record {
  fronts : HasFrontsOf l.fronts l.list;
  names : AreNames l.list (map (λ e. text_in l.fronts e.name) (take l.each-index l.externs));
}
