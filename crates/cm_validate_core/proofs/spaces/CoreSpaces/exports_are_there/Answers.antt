use Rattle.std.proofs.Common.{◌∙◌}
use Rattle.cm_binary_model.specs.Trees.{core_export_tree}
use Rattle.cm_validate_core.specs.Instances.{is_export_there}
use Rattle.cm_validate_core.proofs.InstanceLaws.{export_there, fails_here, passes_all, passes_on, some_of_none, some_of_some}
use Rattle.cm_validate_core.proofs.spaces.CoreSpaces.exports_are_there.Goals as goal

pub returns-then-is_none : goal.returns-then-is_none
returns-then-is_none c = λ made s r.
    fails_here (is_export_there s) core_export_tree c.args.exports.now c.loop-export.export-index c.export-item.result c.loop-export-test.true c.export-item.is _
    (export_there made s (core_export_tree c.export-item.result) c.item_at.result (c.item_at.ensures.def made s r) ∙ some_of_none c.item_at.result c.is_none.result c.is_none.ensures c.if-is_none.true)
    (c.loop-export.invariant made s r)

pub loop-export-preserved : goal.loop-export-preserved
loop-export-preserved c = λ made s r.
    passes_on (is_export_there s) core_export_tree c.args.exports.now c.loop-export.export-index c.export-item.result c.loop-export-test.true c.export-item.is _
    (export_there made s (core_export_tree c.export-item.result) c.item_at.result (c.item_at.ensures.def made s r) ∙ some_of_some c.item_at.result c.is_none.result c.is_none.ensures c.if-is_none.false)
    (c.loop-export.invariant made s r)

pub returns : goal.returns
returns c = λ made s r. passes_all (is_export_there s) core_export_tree c.args.exports.now c.loop-export.export-index _ c.loop-export-test.false (c.loop-export.invariant made s r)
