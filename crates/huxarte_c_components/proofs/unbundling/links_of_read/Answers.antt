use Rattle.std.proofs.Common.{◌∙◌, Global, List, Vec, ap, map}
use Rattle.cm_bundle_links.specs.cm_bundle.Trees.{bundle_tree}
use Rattle.cm_match_model.specs.declared.component.Link.{Link}
use Rattle.cm_match_serving.specs.Sets.{spaces_of_all}
use Rattle.cm_shims.specs.Files.{reading_of}
use Rattle.cm_validate_model.specs.Spaces.{spaces_of}
use Rattle.huxarte_c_components.proofs.BundleLaws.{linked_by, refused_by}
use Rattle.huxarte_c_components.proofs.unbundling.links_of_read.Goals as goal

pub returns-in-Ok-clause-linked : goal.returns-in-Ok-clause-linked
returns-in-Ok-clause-linked c read =
    let items = λ (r : Vec (Vec Link Global) Global). map (λ (l : Vec Link Global). l.items) r.items in
    linked_by items (bundle_tree c.args.bundle.now) (map reading_of c.args.files.now) (spaces_of_all c.deref.result.now) c.links_by.result read c.in-Ok.ensures.sound
    (ap spaces_of_all c.deref.ensures.value ∙ ap (map spaces_of) c.in-Ok.ensures.held) c.links_by.ensures.linked

pub returns-in-Ok-clause-refused : goal.returns-in-Ok-clause-refused
returns-in-Ok-clause-refused c read =
    refused_by (bundle_tree c.args.bundle.now) (map reading_of c.args.files.now) (spaces_of_all c.deref.result.now) c.links_by.result read c.in-Ok.ensures.sound
    (ap spaces_of_all c.deref.ensures.value ∙ ap (map spaces_of) c.in-Ok.ensures.held) c.links_by.ensures.refused
