use Rattle.std.proofs.Common.{◌∙◌, Global, Vec, ap, map}
use Rattle.cm_bundle_links.specs.cm_bundle.Trees.{bundle_tree}
use Rattle.cm_bundle_links.specs.cm_bundle.declared.form.Part.{Part}
use Rattle.cm_match_model.specs.declared.component.Link.{Link}
use Rattle.huxarte_c_components.proofs.BundleLaws.{files_of_parts, unbundled}
use Rattle.huxarte_c_components.proofs.unbundling.unbundle_in.Goals as goal

pub returns-in_ok-seen-in-Ok-clause-out : goal.returns-in_ok-seen-in-Ok-clause-out
returns-in_ok-seen-in-Ok-clause-out c =
    let b = c.in-Ok.bundle in
    let items = λ (r : Vec Link Global). r.items in
    let view = λ (p : Part). p.file.now in
    unbundled c.args.bytes.now (bundle_tree b) (map items c.in-Ok-links_in.rows.items) (map items c.deref-in-Ok.result.now) (map view c.deref.result.now) c.in_ok-seen-in-Ok.seen
    c.args.files.now c.hand_out.new.files c.args.texts.now c.hand_out.new.texts c.args.choices.now c.hand_out.new.choices
    (record { bundle = c.in-Ok.ensures.bundle; bytes_are = c.in-Ok.ensures.spelled }) c.in-Ok-links_in.ensures.linked
    (ap (map view) c.deref.ensures.value ∙ files_of_parts b.parts.items) (ap (map items) c.deref-in-Ok.ensures.value) c.in_ok-seen-in-Ok.ensures.out
