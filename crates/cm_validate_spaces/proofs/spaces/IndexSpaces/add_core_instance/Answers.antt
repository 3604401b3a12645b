use Rattle.std.proofs.Common.{refl}
use Rattle.cm_binary_model.specs.Trees.{core_instance_tree}
use Rattle.cm_validate_model.specs.Items.{core_instance_item}
use Rattle.cm_validate_spaces.proofs.AnswerLaws.{core_answer}
use Rattle.cm_validate_spaces.proofs.ResultLaws.{if_one}
use Rattle.cm_validate_spaces.proofs.spaces.IndexSpaces.add_core_instance.Goals as goal

pub returns : goal.returns
returns c =
    let t = core_instance_tree c.args.instance.now in
    if_one _ _ c.add_instance.result
    (λ r a. core_answer (core_instance_item t) c.args.self.now r c.add_instance.new.self a c.add_instance.ensures.counted (c.others_add_nothing.ensures.core_instances t) (λ s. refl))
    c.add_instance.ensures.answer
