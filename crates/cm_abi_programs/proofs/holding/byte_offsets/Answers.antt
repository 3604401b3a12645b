use Rattle.std.proofs.Common.{◌∙◌}
use Rattle.cm_abi_programs.proofs.HoldingLemmas.{offsets_end, offsets_next, seen_offset}
use Rattle.cm_abi_programs.proofs.holding.byte_offsets.Goals as goal

pub loop-part-preserved : goal.loop-part-preserved
loop-part-preserved c =
    offsets_next c.args.parts.now c.loop-part.part-index _ c.part-item.result c.loop-part.offsets.items c.push.new.self.items c.loop-part-test.true c.part-item.is (seen_offset c.part-item.result) c.in_ok-push.ensures.items
    ∙ c.loop-part.invariant

pub returns : goal.returns
returns c = offsets_end c.args.parts.now c.loop-part.part-index c.loop-part.offsets.items c.loop-part-test.false ∙ c.loop-part.invariant
