use Rattle.std.proofs.Common.{ap}
use Rattle.cm_abi_programs.specs.SlotPuts.{one_slot}
use Rattle.cm_abi_programs.specs.CodedSlots.{slots_in}
use Rattle.cm_abi_programs.proofs.SlotForms.{seen_Leaf}
use Rattle.cm_abi_programs.proofs.ShapeLemmas.{becomes}
use Rattle.cm_abi_programs.proofs.listed_slots.leaf_slots.Goals as goal

pub returns : goal.returns
returns c = becomes slots_in c.one_slot.result _ _ (ap one_slot (seen_Leaf 0 c.args.leaf)) c.one_slot.ensures
