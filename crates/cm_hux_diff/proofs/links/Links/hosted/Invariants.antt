use Rattle.cm_hux_diff.proofs.Faces.{Hosted}
use Rattle.cm_hux_diff.proofs.links.Links.hosted.Given as goal

abbrev pub invariant-loop-place : goal.invariant-loop-place
invariant-loop-place l = Hosted l.self.exports.names.items l.self.offers.names.items l.self.imports.names.items l.place l.places.items
