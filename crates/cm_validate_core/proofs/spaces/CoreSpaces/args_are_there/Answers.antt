use Rattle.std.proofs.Common.{List, sym, ap, ◌∙◌}
use Rattle.std.specs.List.{slice_get}
use Rattle.cm_binary_model.specs.Trees.{arg_tree}
use Rattle.cm_validate_core.specs.declared.entries.CoreInstanceEntry.{CoreInstanceEntry}
use Rattle.cm_validate_core.specs.Instances.{is_arg_there}
use Rattle.cm_validate_core.proofs.InstanceLaws.{fails_here, instance_there, passes_all, passes_on, some_of_none, some_of_some}
use Rattle.cm_validate_core.proofs.spaces.CoreSpaces.args_are_there.Goals as goal

pub returns-then-is_none : goal.returns-then-is_none
returns-then-is_none c = λ made s r.
    let at = ap (λ (xs : List CoreInstanceEntry). slice_get xs c.arg-item.result.instance) (sym c.deref.ensures.value) ∙ sym c.instance_at.ensures in
    fails_here (is_arg_there s) arg_tree c.args.args.now c.loop-arg.arg-index c.arg-item.result c.loop-arg-test.true c.arg-item.is _
    (instance_there made c.args.self.now s c.arg-item.result.instance c.instance_at.result r at ∙ some_of_none c.instance_at.result c.is_none.result c.is_none.ensures c.if-is_none.true)
    (c.loop-arg.invariant made s r)

pub loop-arg-preserved : goal.loop-arg-preserved
loop-arg-preserved c = λ made s r.
    let at = ap (λ (xs : List CoreInstanceEntry). slice_get xs c.arg-item.result.instance) (sym c.deref.ensures.value) ∙ sym c.instance_at.ensures in
    passes_on (is_arg_there s) arg_tree c.args.args.now c.loop-arg.arg-index c.arg-item.result c.loop-arg-test.true c.arg-item.is _
    (instance_there made c.args.self.now s c.arg-item.result.instance c.instance_at.result r at ∙ some_of_some c.instance_at.result c.is_none.result c.is_none.ensures c.if-is_none.false)
    (c.loop-arg.invariant made s r)

pub returns : goal.returns
returns c = λ made s r. passes_all (is_arg_there s) arg_tree c.args.args.now c.loop-arg.arg-index _ c.loop-arg-test.false (c.loop-arg.invariant made s r)
