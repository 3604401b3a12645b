use Rattle.std.proofs.Common.{◌∙◌}
use Rattle.cm_abi_programs.proofs.HoldingLemmas.{seen_width, slots_end, slots_next}
use Rattle.cm_abi_programs.proofs.holding.slot_offsets.Goals as goal

pub loop-part-preserved : goal.loop-part-preserved
loop-part-preserved c =
    slots_next c.args.parts.now c.loop-part.part-index c.loop-part.at c.in_ok-at.at c.part-item.result c.loop-part.offsets.items c.push.new.self.items c.loop-part-test.true c.part-item.is (seen_width c.part-item.result c.loop-part.at c.in_ok-at.at c.in_ok-at.ensures) c.in_ok-push.ensures.items
    ∙ c.loop-part.invariant

pub returns : goal.returns
returns c = slots_end c.args.parts.now c.loop-part.part-index c.loop-part.at c.loop-part.offsets.items c.loop-part-test.false ∙ c.loop-part.invariant
