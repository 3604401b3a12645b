use Rattle.std.proofs.Common.{refl}
use Rattle.cm_wit_reading.specs.SignatureViews.{path_tree}
use Rattle.cm_wit_reading.specs.Trees.{UsedName}
use Rattle.cm_wit_reading.specs.Views.{used_name_tree}
use Rattle.cm_wit_names.specs.FileMentions.{used_marks}
use Rattle.cm_wit_names.proofs.AddLaws.{each_end, each_step}
use Rattle.cm_wit_names.proofs.interface_mentions.add_used_names.Goals as goal

pub loop-used-init : goal.loop-used-init
loop-used-init c = refl

pub loop-used-preserved : goal.loop-used-preserved
loop-used-preserved c = each_step (λ (x : UsedName). used_marks c.args.scope.number (path_tree c.args.path.now) x.name x.new_name) used_name_tree c.args.names.now c.loop-used.used-index c.used-item.result c.loop-used.out c.add_used.new.out _ c.loop-used-test.true c.used-item.is c.in_ok-add_used.ensures c.loop-used.invariant

pub returns : goal.returns
returns c = each_end (λ (x : UsedName). used_marks c.args.scope.number (path_tree c.args.path.now) x.name x.new_name) used_name_tree c.args.names.now c.loop-used.used-index c.loop-used.out _ c.loop-used-test.false c.loop-used.invariant
