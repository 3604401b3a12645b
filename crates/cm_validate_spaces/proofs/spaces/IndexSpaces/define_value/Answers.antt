use Rattle.std.proofs.Common.{ap, ◌∙◌, sym}
use Rattle.cm_types.specs.DefTypes.{def_val_type_tree, value_def}
use Rattle.cm_validate_model.specs.Items.{type_item}
use Rattle.cm_validate_model.specs.Reasons.{least}
use Rattle.cm_validate_model.specs.Scopes.{value_def_of}
use Rattle.cm_validate_model.specs.TypeRules.{value_def_broken}
use Rattle.cm_validate_types.specs.TypeScopes.{own_types}
use Rattle.cm_validate_spaces.proofs.AnswerLaws.{component_stays, types_answer}
use Rattle.cm_validate_spaces.proofs.ResultLaws.{if_both}
use Rattle.cm_validate_spaces.proofs.TypeLaws.{defined_is}
use Rattle.cm_validate_spaces.proofs.spaces.IndexSpaces.define_value.Goals as goal

pub returns : goal.returns
returns c =
    let w = c.args.self.now in
    let v = def_val_type_tree c.args.def.now in
    let x = type_item (value_def v) in
    let t = c.define_value.new.self in
    if_both _ _ _ c.define_value.result
    (λ r fault defined. types_answer c.entries_stay.ensures.component c.first_layouts_stay.ensures.grown x w r w.component t
    (λ s k. fault ∙ ap (λ ts. least (value_def_broken ts v)) (sym k.types_are))
    (component_stays x w r (c.others_add_nothing-2.ensures.value_types v))
    (λ s k. defined_is (own_types w.types) s.types (own_types t) (λ ts. value_def_of ts v) r k.types_are defined)
    c.define_value.ensures.grown (λ s k. c.define_value.ensures.stays.settled k.settled) (c.others_add_nothing.ensures.types (value_def v)))
    c.define_value.ensures.fault c.define_value.ensures.defined
