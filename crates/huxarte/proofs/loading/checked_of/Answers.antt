use Rattle.std.proofs.Common.{◌∙◌, ap, refl, sym, add-one, ◌++◌, ◌∷◌, []}
use Rattle.std.proofs.lemmas.List.{map-append}
use Rattle.std.proofs.lemmas.Option.{slice_get_read}
use Rattle.std.specs.Prelude.{take}
use Rattle.cm_validate_model.specs.Valid.{IsValid}
use Rattle.cm_match_serving.specs.Sets.{sections_of}
use Rattle.cm_host.specs.cm_validate_functions.cm_validate_spaces.Checked.{sections_in}
use Rattle.huxarte.proofs.LoadingLaws.{all_next}
use Rattle.huxarte.proofs.loading.checked_of.Goals as goal
use Rattle.cm_lemmas.proofs.Lists.{take_next}

pub loop-file-preserved : goal.loop-file-preserved
loop-file-preserved c =
    let at = slice_get_read c.args.components.now _ c.loop-file.file c.index-components-file.result refl c.loop-file-test.true c.index-components-file.is in
    rw add-one (
      ap sections_of c.in_ok-push-in-Ok.ensures.items
          ∙ (map-append sections_in c.loop-file.checked.items (c.in-Ok.component ∷ [])
          ∙ (ap (λ xs. xs ++ sections_in c.in-Ok.component ∷ []) c.loop-file.invariant.0
          ∙ (ap (λ x. take c.loop-file.file c.args.components.now ++ x ∷ []) c.in-Ok.ensures.held ∙ sym (take_next c.args.components.now c.loop-file.file c.index-components-file.result at)))),
      all_next IsValid c.args.components.now c.loop-file.file c.index-components-file.result at c.loop-file.invariant.1 c.in-Ok.ensures.accepted,
    )
