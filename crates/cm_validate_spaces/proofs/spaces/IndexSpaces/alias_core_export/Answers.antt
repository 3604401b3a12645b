use Rattle.std.proofs.Common.{refl}
use Rattle.cm_binary_model.specs.Trees.{core_instance_export}
use Rattle.cm_validate_model.specs.Items.{alias_item}
use Rattle.cm_validate_spaces.proofs.AnswerLaws.{core_answer}
use Rattle.cm_validate_spaces.proofs.ResultLaws.{if_one}
use Rattle.cm_validate_spaces.proofs.spaces.IndexSpaces.alias_core_export.Goals as goal

pub returns : goal.returns
returns c =
    let a = core_instance_export c.args.sort c.args.instance c.args.name.now in
    if_one _ _ c.alias.result
    (λ r b. core_answer (alias_item a) c.args.self.now r c.alias.new.self b c.alias.ensures.counted (c.others_add_nothing.ensures.core_aliases c.args.sort c.args.instance c.args.name.now) (λ s. refl))
    c.alias.ensures.answer
