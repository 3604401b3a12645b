use Rattle.std.proofs.Common.{ℕ, arith, refl, get_or, ◌-◌}
use Rattle.cm_types_numbers.specs.Numbering.{numbering}
use Rattle.cm_types_numbers.proofs.ChainLemmas.{field_before}
use Rattle.cm_types_numbers.proofs.Steps.{all_kept}
use Rattle.cm_types_numbers.proofs.numbers.Numbers.fields.Goals as goal

pub loop-i-preserved : goal.loop-i-preserved
loop-i-preserved c =
    let part : ℕ = get_or c.args.parts.now (c.loop-i.i - 1) 0 in
    record {
      kept = all_kept (numbering c.args.self.now) (numbering c.loop-i.self) (numbering c.label.new.self) (numbering c.node-in-loop-i.new.self) c.loop-i.invariant.kept c.label.ensures.kept c.node-in-loop-i.ensures.kept;
      number = λ s are. field_before (numbering c.args.self.now) (numbering c.loop-i.self) (numbering c.label.new.self) (numbering c.node-in-loop-i.new.self) c.loop-i.invariant.kept c.label.ensures.kept c.node-in-loop-i.ensures.kept s c.args.fields.now c.args.parts.now c.loop-i.i c.index-fields-i.result part
          c.loop-i-test.true (omega arith) c.index-fields-i.is (omega (arith, c.requires)) refl c.as_str.result.now c.loop-i.others c.in_ok-label.label c.in_ok-others-2.others c.as_str.ensures.text (c.loop-i.invariant.number s) c.in_ok-label.ensures.number c.in_ok-others-2.ensures.number are;
    }
