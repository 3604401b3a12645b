use Rattle.std.proofs.Common.{◌∙◌, ◌++◌, ◌∷◌, [], Some, ap, map, sym, take}
use Rattle.std.proofs.lemmas.List.{map-append}
use Rattle.std.proofs.lemmas.Option.{slice_get-get_or}
use Rattle.cm_lemmas.proofs.Lists.{take_one}
use Rattle.cm_names.specs.Keys.{key_view}
use Rattle.cm_match_serving.specs.cm_validate_entries.declared.spaces.ExportEntry.{ExportEntry}
use Rattle.cm_match_serving.specs.cm_validate_entries.ComponentSpaces.{export_def}
use Rattle.cm_bundle_links.specs.Tables.{key_of}
use Rattle.cm_bundle_links.proofs.tables.keys_of.Goals as goal

pub loop-export-preserved : goal.loop-export-preserved
loop-export-preserved c types funcs =
    let xs = c.args.exports.now in
    let n = c.loop-export.export-index in
    let x = c.export-item.result in
    let old = c.loop-export.keys.items in
    let key = λ (e : ExportEntry). key_of (export_def types funcs e) in
    let there = slice_get-get_or xs n x c.loop-export-test.true ∙ ap Some (sym c.export-item.is) in
    ap (map key_view) c.in_ok-push.ensures.items ∙ map-append key_view old (c.key_of.result ∷ [])
    ∙ ap (λ ks. ks ++ key_view c.key_of.result ∷ []) (c.loop-export.invariant types funcs)
    ∙ ap (λ k. map key (take n xs) ++ k ∷ []) (c.key_of.ensures types funcs)
    ∙ sym (map-append key (take n xs) (x ∷ []))
    ∙ ap (map key) (sym (take_one xs n x there))
