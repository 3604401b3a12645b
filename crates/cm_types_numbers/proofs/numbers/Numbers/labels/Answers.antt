use Rattle.std.proofs.Common.{arith}
use Rattle.cm_types_numbers.specs.Numbering.{numbering}
use Rattle.cm_types_numbers.proofs.Steps.{label_before, all_kept}
use Rattle.cm_types_numbers.proofs.numbers.Numbers.labels.Goals as goal

pub loop-i-preserved : goal.loop-i-preserved
loop-i-preserved c = record {
  kept = all_kept (numbering c.args.self.now) (numbering c.loop-i.self) (numbering c.label.new.self) (numbering c.node-in-loop-i.new.self) c.loop-i.invariant.kept c.label.ensures.kept c.node-in-loop-i.ensures.kept;
  number = label_before (numbering c.args.self.now) (numbering c.loop-i.self) (numbering c.label.new.self) (numbering c.node-in-loop-i.new.self) c.loop-i.invariant.kept c.label.ensures.kept c.node-in-loop-i.ensures.kept c.args.labels.now c.loop-i.i c.index-labels-i.result c.loop-i-test.true (omega arith) c.index-labels-i.is c.as_str.result.now c.loop-i.others c.in_ok-label.label c.in_ok-others-2.others c.loop-i.invariant.number c.as_str.ensures.text c.in_ok-label.ensures.number c.in_ok-others-2.ensures.number;
}
