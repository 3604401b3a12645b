use Rattle.std.proofs.Common.{refl}
use Rattle.cm_validate_model.specs.Items.{import_item}
use Rattle.cm_validate_spaces.specs.IndexSpaces.{funcs_in, types_in}
use Rattle.cm_validate_spaces.proofs.AnswerLaws.{component_answer, types_at}
use Rattle.cm_validate_spaces.proofs.ResultLaws.{if_one}
use Rattle.cm_validate_spaces.proofs.spaces.IndexSpaces.add_import.Goals as goal

pub returns : goal.returns
returns c =
    let w = c.args.self.now in
    let at = types_at w c.entries.result.now c.entries.ensures.entries c.entries.ensures.placed in
    if_one _ _ c.import.result
    (λ r a. component_answer (import_item c.args.import.now) w r c.import.new.self
    (λ s k. a.fault (types_in w) (funcs_in w) s k.component_is (at s k)) (λ s k. a.after (types_in w) (funcs_in w) s k.component_is (at s k))
    (c.others_add_nothing.ensures.imports c.args.import.now) (λ s k. refl))
    c.import.ensures
