use Rattle.std.proofs.Common.{◌∙◌, ap, map}
use Rattle.cm_bundle_links.specs.cm_bundle.declared.form.Part.{Part}
use Rattle.huxarte_c_components.proofs.BundleLaws.{files_of_parts}
use Rattle.huxarte_c_components.proofs.unbundling.links_in.Goals as goal

pub links_of_files-requires : goal.links_of_files-requires
links_of_files-requires c =
    ap (map (λ f. f.now)) c.deref-2.ensures.value ∙ c.in_ok-files.ensures
    ∙ ap (map (λ (p : Part). p.file.now)) c.deref.ensures.value ∙ files_of_parts c.args.bundle.now.parts.items
