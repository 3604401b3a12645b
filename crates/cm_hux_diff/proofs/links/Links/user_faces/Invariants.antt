use Rattle.cm_wit_conforms.proofs.MapLaws.{Maps}
use Rattle.cm_hux_diff.specs.Views.{faces_in}
use Rattle.cm_hux_diff.proofs.links.Links.user_faces.Given as goal

abbrev pub invariant-loop-name : goal.invariant-loop-name
invariant-loop-name l = Maps (faces_in l.self) l.self.exports.names.items l.name-index l.faces.items
