use Rattle.std.proofs.Common.{◌∙◌, ap}
use Rattle.cm_validate_model.specs.Reasons.{lesser}
use Rattle.cm_validate_model.specs.TypeRules.{value_broken}
use Rattle.cm_validate_core.proofs.parts.fields_fault.Goals as goal
use Rattle.cm_validate_model.proofs.ReasonsLaws.{read_on}

pub loop-field-preserved : goal.loop-field-preserved
loop-field-preserved c =
    read_on c.least_of_both.ensures (λ f. value_broken c.args.sorts.now f.ty) c.args.fields.now c.loop-field.field-index c.field-item.result c.loop-field.fault c.lesser-fault.result _
    c.loop-field-test.true c.field-item.is (c.lesser-fault.ensures ∙ ap (lesser c.loop-field.fault) c.value_fault.ensures) c.loop-field.invariant
