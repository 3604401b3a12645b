use Rattle.std.proofs.Common.{◌∙◌, ap, get_or}
use Rattle.cm_types.specs.declared.def_types.PrimValType.TheVariants as prim
use Rattle.cm_types.specs.declared.def_types.ValType.TheVariants as val_type
use Rattle.cm_validate_model.specs.Reasons.{lesser}
use Rattle.cm_validate_model.specs.TypeRules.{value_broken}
use Rattle.cm_validate_core.proofs.parts.types_fault.Goals as goal
use Rattle.cm_lemmas.proofs.Lists.{element_again}
use Rattle.cm_validate_model.proofs.ReasonsLaws.{read_on}

pub loop-ty-preserved : goal.loop-ty-preserved
loop-ty-preserved c =
    let ty = get_or c.args.types.now c.loop-ty.ty-index (val_type.Primitive prim.Bool) in
    read_on c.least_of_both.ensures (value_broken c.args.sorts.now) c.args.types.now c.loop-ty.ty-index ty c.loop-ty.fault c.lesser-fault.result _
    c.loop-ty-test.true (element_again c.args.types.now c.loop-ty.ty-index (val_type.Primitive prim.Bool) ty c.loop-ty-test.true)
    (c.lesser-fault.ensures ∙ ap (lesser c.loop-ty.fault) c.value_fault.ensures) c.loop-ty.invariant
