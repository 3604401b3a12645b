use Rattle.cm_hux_diff.proofs.Faces.{Met}
use Rattle.cm_hux_diff.proofs.links.Links.met.Given as goal

abbrev pub invariant-loop-place : goal.invariant-loop-place
invariant-loop-place l = Met l.self.exports.names.items l.self.offers.names.items l.self.offers.names.items l.place l.met.items
