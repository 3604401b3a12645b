use Rattle.std.proofs.Common.{◌∙◌, ◌++◌, Global, Some, Vec, ap, sym}
use Rattle.std.proofs.lemmas.Option.{slice_get-get_or}
use Rattle.cm_match_model.specs.declared.component.Link.{Link}
use Rattle.cm_match_serving.specs.Candidates.{each_from}
use Rattle.huxarte_c_components.specs.Unbundling.{choice_of}
use Rattle.huxarte_c_components.proofs.BundleLaws.{choices_next}
use Rattle.huxarte_c_components.proofs.unbundled.choices_of.Goals as goal

pub loop-importer-preserved : goal.loop-importer-preserved
loop-importer-preserved c =
    let rows = c.args.rows.now in
    let n = c.loop-importer.importer in
    let row = c.index-rows-importer.result in
    let there = slice_get-get_or rows n row c.loop-importer-test.true ∙ ap Some (sym c.index-rows-importer.is) in
    c.in_ok-add_choices.ensures
    ∙ ap (λ ls. c.loop-importer.choices.items ++ each_from (choice_of n) 0 ls) c.deref.ensures.value
    ∙ ap (λ cs. cs ++ each_from (choice_of n) 0 row.items) c.loop-importer.invariant
    ∙ sym (choices_next (λ (r : Vec Link Global). r.items) rows n row there)
