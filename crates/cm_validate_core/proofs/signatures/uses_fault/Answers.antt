use Rattle.std.proofs.Common.{sym, ap, ◌∙◌, List}
use Rattle.std.specs.List.{flat_map}
use Rattle.cm_types.specs.declared.def_types.LabeledValType.{LabeledValType}
use Rattle.cm_validate_model.specs.Reasons.{least, lesser}
use Rattle.cm_validate_model.specs.TypeRules.{payload_broken, value_broken}
use Rattle.cm_validate_core.proofs.signatures.uses_fault.Goals as goal

pub returns : goal.returns
returns c =
    let F = λ (p : LabeledValType). value_broken c.args.sorts.now p.ty in
    let params = c.fields_fault-params.ensures ∙ ap (λ (ps : List LabeledValType). least (flat_map F ps)) c.deref.ensures.value in
    c.lesser.ensures
    ∙ ap (λ v. lesser v c.payload_fault.result) params
    ∙ ap (lesser (least (flat_map F c.args.func.now.params.items))) c.payload_fault.ensures
    ∙ sym (c.least_of_both.ensures (flat_map F c.args.func.now.params.items) (payload_broken c.args.sorts.now c.args.func.now.result))
