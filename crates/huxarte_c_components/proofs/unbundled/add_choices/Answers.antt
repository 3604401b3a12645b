use Rattle.std.proofs.Common.{◌∙◌, ◌++◌, ◌∷◌, [], ap, append_assoc, get_or, sym, take}
use Rattle.std.proofs.lemmas.Option.{slice_get-get_or}
use Rattle.cm_match_model.specs.declared.component.Link.{Link}
use Rattle.cm_match_serving.proofs.Rows.{each_next}
use Rattle.cm_match_serving.specs.Candidates.{each_from}
use Rattle.huxarte_c_components.specs.Unbundling.{choice_of}
use Rattle.huxarte_c_components.proofs.unbundled.add_choices.Goals as goal

-- what a place of no link is read as
abbrev no_link : Link
no_link = record { component = 0; export = 0 }

pub loop-import_at-preserved : goal.loop-import_at-preserved
loop-import_at-preserved c =
    let start = c.args.choices.now.items in
    let tell = choice_of c.args.importer in
    let ls = c.args.row.now in
    let n = c.loop-import_at.import_at in
    let l = get_or ls n no_link in
    c.in_ok-push.ensures.items
    ∙ ap (λ cs. cs ++ tell n l ∷ []) c.loop-import_at.invariant
    ∙ append_assoc start (each_from tell 0 (take n ls)) (tell n l ∷ [])
    ∙ ap (λ cs. start ++ cs) (sym (each_next tell ls n l (slice_get-get_or ls n no_link c.loop-import_at-test.true)))
