use Rattle.std.proofs.Common.{refl}
use Rattle.cm_wit_reading.specs.Views.{resource_func_tree}
use Rattle.cm_wit_names.specs.FileMentions.{resource_func_marks}
use Rattle.cm_wit_names.proofs.AddLaws.{each_end, each_step}
use Rattle.cm_wit_names.proofs.interface_mentions.add_resource_funcs.Goals as goal

pub loop-func-init : goal.loop-func-init
loop-func-init c = refl

pub loop-func-preserved : goal.loop-func-preserved
loop-func-preserved c = each_step (resource_func_marks c.args.scope.number c.args.resource.number) resource_func_tree c.args.funcs.now c.loop-func.func-index c.func-item.result c.loop-func.out c.add_resource_func.new.out _ c.loop-func-test.true c.func-item.is c.in_ok-add_resource_func.ensures c.loop-func.invariant

pub returns : goal.returns
returns c = each_end (resource_func_marks c.args.scope.number c.args.resource.number) resource_func_tree c.args.funcs.now c.loop-func.func-index c.loop-func.out _ c.loop-func-test.false c.loop-func.invariant
