use Rattle.std.proofs.Common.{None, ap, ◌∙◌}
use Rattle.std.specs.List.{slice_index_or}
use Rattle.cm_wit_conforms.specs.Places.{place_in}
use Rattle.cm_hux_diff.proofs.Places.{index_mapped, read_at}
use Rattle.cm_hux_diff.proofs.links.faces_of.Goals as goal

pub host_face-requires : goal.host_face-requires
host_face-requires c =
    let n = c.loop-place.place in
    let x = c.index-wanted-place.result in
    c.place_at.ensures
    ∙ (ap (λ l. slice_index_or l n None) c.requires
    ∙ index_mapped (place_in c.args.offers.now.names.items) c.args.wanted.now n x (read_at x c.args.wanted.now n c.loop-place-test.true c.index-wanted-place.is))
