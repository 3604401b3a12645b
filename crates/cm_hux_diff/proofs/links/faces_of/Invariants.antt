use Rattle.cm_wit_conforms.proofs.MapLaws.{Maps}
use Rattle.cm_hux_diff.specs.Facing.{host_face}
use Rattle.cm_hux_diff.proofs.links.faces_of.Given as goal

abbrev pub invariant-loop-place : goal.invariant-loop-place
invariant-loop-place l = Maps (host_face l.offers.names.items) l.wanted l.place l.faces.items
