use Rattle.std.proofs.Common.{refl, ◌∙◌, arith}
use Rattle.cm_abi_programs.specs.CodedSlots.{slot_lists, slots_in}
use Rattle.cm_abi_programs.proofs.SlotMakingLemmas.{placed_end, placed_next}
use Rattle.cm_abi_programs.proofs.listed_slots.placed_slots.Goals as goal

pub loop-index-preserved : goal.loop-index-preserved
loop-index-preserved c =
    placed_next c.args.offsets.now c.args.lists.now c.loop-index.index _ c.index-lists-index.result (slots_in c.loop-index.all.items) (slots_in c.push_placed.new.all.items) c.loop-index-test.true (omega (arith, c.loop-index-test.true, c.requires)) refl c.index-lists-index.is c.in_ok-push_placed.ensures
    ∙ c.loop-index.invariant

pub returns : goal.returns
returns c = placed_end c.args.offsets.now (slot_lists _) c.loop-index.index (slots_in c.loop-index.all.items) c.loop-index-test.false ∙ c.loop-index.invariant
