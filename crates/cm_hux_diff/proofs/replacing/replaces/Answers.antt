use Rattle.std.proofs.Common.{◌∙◌}
use Rattle.cm_types_arena.specs.Signatures.{signature_of}
use Rattle.cm_hux_diff.proofs.Standings.{faces_are, hosted_are, met_are}
use Rattle.cm_hux_diff.proofs.replacing.replaces.Goals as goal

pub returns : goal.returns
returns c =
    let old = signature_of c.args.old.now in
    let new = signature_of c.args.new.now in
    record {
      imports = c.in_ok-at_new.ensures.faces;
      exports = c.in_ok-exports.ensures ∙ faces_are old new c.in_ok-links.links c.in_ok-links.ensures;
      hosts = c.in_ok-hosts.ensures;
      users = c.in_ok-users.ensures;
      hosted = c.in_ok-hosted.ensures ∙ hosted_are old new c.in_ok-links.links c.in_ok-links.ensures;
      met = c.in_ok-met.ensures ∙ met_are old new c.in_ok-links.links c.in_ok-links.ensures;
    }

pub users_broken-requires-clause-faces : goal.users_broken-requires-clause-faces
users_broken-requires-clause-faces c =
    let old = signature_of c.args.old.now in
    let new = signature_of c.args.new.now in
    c.deref.ensures.value ∙ (c.in_ok-exports.ensures ∙ faces_are old new c.in_ok-links.links c.in_ok-links.ensures)
