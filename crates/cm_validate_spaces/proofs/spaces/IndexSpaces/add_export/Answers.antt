use Rattle.std.proofs.Common.{refl}
use Rattle.cm_validate_model.specs.Items.{export_item}
use Rattle.cm_validate_spaces.specs.IndexSpaces.{funcs_in, types_in}
use Rattle.cm_validate_spaces.proofs.AnswerLaws.{component_answer}
use Rattle.cm_validate_spaces.proofs.ResultLaws.{if_one}
use Rattle.cm_validate_spaces.proofs.spaces.IndexSpaces.add_export.Goals as goal

pub returns : goal.returns
returns c =
    let w = c.args.self.now in
    if_one _ _ c.export.result
    (λ r a. component_answer (export_item c.args.export.now) w r c.export.new.self
    (λ s k. a.fault (types_in w) (funcs_in w) s k.component_is) (λ s k. a.after (types_in w) (funcs_in w) s k.component_is)
    (c.others_add_nothing.ensures.exports c.args.export.now) (λ s k. refl))
    c.export.ensures
