use Rattle.std.proofs.Common.{ap, ◌∙◌, sym}
use Rattle.cm_types.specs.DefTypes.{func_def, func_type_tree}
use Rattle.cm_validate_model.specs.Items.{type_item}
use Rattle.cm_validate_model.specs.Reasons.{least}
use Rattle.cm_validate_model.specs.Scopes.{func_def_of}
use Rattle.cm_validate_model.specs.TypeRules.{func_def_broken}
use Rattle.cm_validate_types.specs.TypeScopes.{own_types}
use Rattle.cm_validate_spaces.proofs.AnswerLaws.{component_stays, types_answer}
use Rattle.cm_validate_spaces.proofs.ResultLaws.{if_both}
use Rattle.cm_validate_spaces.proofs.TypeLaws.{defined_is}
use Rattle.cm_validate_spaces.proofs.spaces.IndexSpaces.define_func.Goals as goal

pub returns : goal.returns
returns c =
    let w = c.args.self.now in
    let v = func_type_tree c.args.def.now in
    let x = type_item (func_def v) in
    let t = c.define_func.new.self in
    if_both _ _ _ c.define_func.result
    (λ r fault defined. types_answer c.entries_stay.ensures.component c.first_layouts_stay.ensures.grown x w r w.component t
    (λ s k. fault ∙ ap (λ ts. least (func_def_broken ts v)) (sym k.types_are))
    (component_stays x w r (c.others_add_nothing-2.ensures.func_types v))
    (λ s k. defined_is (own_types w.types) s.types (own_types t) (λ ts. func_def_of ts v) r k.types_are defined)
    c.define_func.ensures.grown (λ s k. c.define_func.ensures.stays.settled k.settled) (c.others_add_nothing.ensures.types (func_def v)))
    c.define_func.ensures.fault c.define_func.ensures.defined
