use Rattle.std.proofs.Common.{None, refl}
use Rattle.cm_validate_model.specs.Items.{core_module_item}
use Rattle.cm_validate_spaces.proofs.AnswerLaws.{core_answer}
use Rattle.cm_validate_spaces.proofs.ResultLaws.{on_one}
use Rattle.cm_validate_spaces.proofs.spaces.IndexSpaces.add_core_module.Goals as goal

pub returns : goal.returns
returns c =
    on_one _ _ c.add_module.result
    (λ b. core_answer core_module_item c.args.self.now None c.add_module.new.self (record { fault = λ tell s h. refl; after = b }) c.add_module.ensures.counted c.others_add_nothing.ensures.core_modules (λ s. refl))
    c.add_module.ensures.added
