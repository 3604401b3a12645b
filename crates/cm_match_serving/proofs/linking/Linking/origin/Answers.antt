use Rattle.std.proofs.Common.{refl}
use Rattle.cm_match_model.specs.Origins.{origin_of}
use Rattle.cm_match_model.specs.Imports.{links_of}
use Rattle.cm_match_serving.specs.Linkings.{set_in}
use Rattle.cm_match_serving.proofs.linking.Linking.origin.Goals as goal

pub returns : goal.returns
returns c =
    let set = set_in c.args.self.now in
    let early = c.links_lead_earlier.ensures set in
    c.origin.ensures set.spaces (links_of set) (origin_of set.spaces (links_of set)) (record { sources = λ r. refl; linked = λ d i. refl; members = λ l n. refl }) early
    (c.origins_are_unique.ensures.one set.spaces (links_of set) early)
