use Rattle.std.proofs.Common.{◌∙◌, ap}
use Rattle.cm_match_model.specs.Imports.{LinkSet, links_of}
use Rattle.cm_match_model.specs.Origins.{origin_of, resource_of}
use Rattle.cm_match.proofs.linked.Linked.resource.Goals as goal

pub returns : goal.returns
returns c =
    c.origin.ensures
    ∙ ap (λ (s : LinkSet). origin_of s.spaces (links_of s) (resource_of c.args.component c.args.number)) c.linking.ensures.set
