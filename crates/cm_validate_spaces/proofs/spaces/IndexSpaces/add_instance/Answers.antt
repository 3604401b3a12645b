use Rattle.std.proofs.Common.{refl, List, subst}
use Rattle.cm_binary_model.specs.Trees.{instance_tree}
use Rattle.cm_validate_instances.specs.Answers.{AnswersAmong}
use Rattle.cm_types.specs.Types.{FuncTy, Ty}
use Rattle.cm_binary_model.specs.declared.instances.InlineExport.{InlineExport}
use Rattle.cm_types_arena.specs.Places.{funcs_of, types_of}
use Rattle.cm_validate_model.specs.Items.{instance_item}
use Rattle.cm_validate_spaces.specs.IndexSpaces.{funcs_in, types_in}
use Rattle.cm_validate_spaces.proofs.AnswerLaws.{component_answer, types_at}
use Rattle.cm_validate_spaces.proofs.ResultLaws.{if_one}
use Rattle.cm_validate_spaces.proofs.spaces.IndexSpaces.add_instance.Goals as goal

pub returns : goal.returns
returns c =
    let w = c.args.self.now in
    let x = instance_item (instance_tree c.args.instance.now) in
    let es = c.entries.result.now in
    let d = c.add_instance.new.spaces in
    let at = types_at w es c.entries.ensures.entries c.entries.ensures.placed in
    let arena = c.types.result.now in
    if_one (λ r. AnswersAmong (types_of arena) (funcs_of arena) es (instance_item c.deref.result.now) w.component r d) _ c.add_instance.result
    (λ r b.
    let a1 = subst (λ (ts : List Ty). AnswersAmong ts (funcs_of arena) es (instance_item c.deref.result.now) w.component r d) c.types.ensures.types b in
    let a2 = subst (λ (fs : List FuncTy). AnswersAmong (types_in w) fs es (instance_item c.deref.result.now) w.component r d) c.types.ensures.funcs a1 in
    let a = subst (λ (ms : List InlineExport). AnswersAmong (types_in w) (funcs_in w) es (instance_item ms) w.component r d) c.deref.ensures.value a2 in
    component_answer x w r d (λ s k. a.fault s k.component_is (at s k)) (λ s k. a.after s k.component_is (at s k)) (c.others_add_nothing.ensures.instances (instance_tree c.args.instance.now)) (λ s k. refl))
    c.add_instance.ensures.answer
