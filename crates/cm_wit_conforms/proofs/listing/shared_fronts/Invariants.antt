use Rattle.std.proofs.Common.{[]}
use Rattle.cm_types_arena.specs.SharedNames.{name_with}
use Rattle.cm_wit_conforms.specs.Parts.{front_of}
use Rattle.cm_wit_conforms.specs.PartViews.{front_view}
use Rattle.cm_wit_conforms.proofs.MapLaws.{Rests}
use Rattle.cm_wit_conforms.proofs.listing.shared_fronts.Given as goal

abbrev pub invariant-loop-front : goal.invariant-loop-front
invariant-loop-front l = Rests (λ f. front_of (name_with f [])) front_view l.fronts l.front-index l.parts.items
