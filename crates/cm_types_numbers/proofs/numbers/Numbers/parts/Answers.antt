use Rattle.std.proofs.Common.{ℕ, arith, refl, get_or, ◌-◌}
use Rattle.cm_types_numbers.specs.Numbering.{numbering}
use Rattle.cm_types_numbers.proofs.ChainLemmas.{part_before, no_parts_yet}
use Rattle.cm_types_numbers.proofs.Steps.{all_kept}
use Rattle.cm_types_numbers.proofs.numbers.Numbers.parts.Goals as goal

pub loop-i-init : goal.loop-i-init
loop-i-init c = record {
  kept = c.node.ensures.kept;
  number = λ s ts are. no_parts_yet (numbering c.args.self.now) (numbering c.node.new.self) s ts c.args.parts.now c.in_ok-others.others c.in_ok-others.ensures.number are;
}

pub loop-i-preserved : goal.loop-i-preserved
loop-i-preserved c =
    let part : ℕ = get_or c.args.parts.now (c.loop-i.i - 1) 0 in
    record {
      kept = all_kept (numbering c.args.self.now) (numbering c.loop-i.self) (numbering c.label.new.self) (numbering c.node-in-loop-i.new.self) c.loop-i.invariant.kept c.label.ensures.kept c.node-in-loop-i.ensures.kept;
      number = λ s ts are. part_before (numbering c.args.self.now) (numbering c.loop-i.self) (numbering c.label.new.self) (numbering c.node-in-loop-i.new.self) c.loop-i.invariant.kept c.label.ensures.kept c.node-in-loop-i.ensures.kept s ts c.args.parts.now c.loop-i.i part
          c.loop-i-test.true (omega arith) refl c.loop-i.others c.in_ok-label.label c.in_ok-others-2.others (c.loop-i.invariant.number s) c.in_ok-label.ensures.number c.in_ok-others-2.ensures.number are;
    }
