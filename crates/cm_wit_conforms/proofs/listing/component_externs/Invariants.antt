use Rattle.std.proofs.Common.{map, take}
use Rattle.cm_wit_conforms.specs.Listings.{AreNames}
use Rattle.cm_wit_conforms.proofs.listing.component_externs.Given as goal

abbrev pub invariant-loop-each : goal.invariant-loop-each
invariant-loop-each l = AreNames l.list (map (λ e. e.name) (take l.each-index l.externs))
