use Rattle.std.proofs.Common.{◌∙◌, ap, refl, sym, add-one, ◌++◌, ◌∷◌, []}
use Rattle.std.proofs.lemmas.List.{map-append}
use Rattle.std.proofs.lemmas.Option.{slice_get_read}
use Rattle.std.specs.Prelude.{take}
use Rattle.cm_validate_model.specs.Valid.{IsValid}
use Rattle.cm_stubs.specs.Sets.{sections_of}
use Rattle.cm_validate.specs.cm_validate_spaces.Checked.{sections_in}
use Rattle.cm_stubs.proofs.CheckedLaws.{all_next}
use Rattle.cm_stubs.proofs.checked.checked_of.Goals as goal
use Rattle.cm_lemmas.proofs.Lists.{take_next}

pub loop-at-preserved : goal.loop-at-preserved
loop-at-preserved c =
    let at = slice_get_read c.args.components.now _ c.loop-at.at c.index-components-at.result refl c.loop-at-test.true c.index-components-at.is in
    rw add-one (
      ap sections_of c.in_ok-push-in-Ok.ensures.items
          ∙ (map-append sections_in c.loop-at.checked.items (c.in-Ok.component ∷ [])
          ∙ (ap (λ xs. xs ++ sections_in c.in-Ok.component ∷ []) c.loop-at.invariant.0
          ∙ (ap (λ x. take c.loop-at.at c.args.components.now ++ x ∷ []) c.in-Ok.ensures.held ∙ sym (take_next c.args.components.now c.loop-at.at c.index-components-at.result at)))),
      all_next IsValid c.args.components.now c.loop-at.at c.index-components-at.result at c.loop-at.invariant.1 c.in-Ok.ensures.accepted,
    )
