use Rattle.std.proofs.Common.{◌∙◌, List, length, map, refl, subst}
use Rattle.std.specs.List.{AllByRecursion}
use Rattle.std.proofs.lemmas.List.{take_all}
use Rattle.std.proofs.lemmas.Option.{slice_get_read}
use Rattle.cm_validate_model.specs.Valid.{IsValid}
use Rattle.cm_validate_spaces.specs.Checked.{sections_in}
use Rattle.cm_validate_spaces.specs.declared.checked.Checked.{Checked}
use Rattle.cm_machine_links.proofs.MadeFacts.{one_more_valid}
use Rattle.cm_machine_links.proofs.laws.components_are_valid.Goals as goal

pub loop-checked-preserved : goal.loop-checked-preserved
loop-checked-preserved c =
    let cs : List Checked = c.components-checked-items.result.now in
    let x : Checked = c.checked-item.result in
    one_more_valid cs c.loop-checked.checked-index x (slice_get_read cs (length cs) c.loop-checked.checked-index x refl c.loop-checked-test.true c.checked-item.is) c.component.ensures.valid c.loop-checked.invariant

pub returns : goal.returns
returns c =
    let cs : List Checked = c.components-checked-items.result.now in
    subst (λ (l : List Checked). AllByRecursion IsValid (map sections_in l)) (take_all c.loop-checked.checked-index cs c.loop-checked-test.false ∙ c.components-checked-items.ensures.components) c.loop-checked.invariant
