use Rattle.cm_wit_reading.specs.Views.{file_tree}
use Rattle.cm_wit_worlds.specs.Interfaces.{worlds_from}
use Rattle.cm_wit_worlds.specs.InterfaceViews.{placed_world}
use Rattle.cm_wit_worlds.proofs.ListingLaws.{Joins}
use Rattle.cm_wit_worlds.proofs.listing.worlds.Given as goal

abbrev pub invariant-loop-place : goal.invariant-loop-place
invariant-loop-place l = Joins (λ f. file_tree f.now) worlds_from placed_world l.files l.place l.out.items
