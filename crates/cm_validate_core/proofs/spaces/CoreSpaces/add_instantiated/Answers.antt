use Rattle.std.proofs.Common.{map, refl, subst, sym}
use Rattle.cm_binary_model.specs.Trees.{arg_tree, instantiate}
use Rattle.cm_validate_model.specs.Items.{core_instance_item}
use Rattle.cm_validate_core.specs.CoreSpaces.{IsCoreOf, after_answer}
use Rattle.cm_validate_core.proofs.InstanceLaws.{some_of_none}
use Rattle.cm_validate_core.proofs.spaces.CoreSpaces.add_instantiated.Goals as goal
use Rattle.cm_lemmas.proofs.Options.{is_none}

pub returns-in_ok-push_instance-clause-answer : goal.returns-in_ok-push_instance-clause-answer
returns-in_ok-push_instance-clause-answer c = record {
  fault = c.in_ok-fault.ensures;
  after = λ made s r.
      let none = is_none c.in_ok-fault.fault (some_of_none c.in_ok-fault.fault c.is_none.result c.is_none.ensures c.if-is_none.true) in
      let tree = instantiate c.args.module_index (map arg_tree c.args.args.now) in
      subst (λ o. IsCoreOf made c.push_instance.new.self (after_answer o s (core_instance_item tree))) (sym none) (c.in_ok-push_instance.ensures.added made s tree tt refl r);
}
