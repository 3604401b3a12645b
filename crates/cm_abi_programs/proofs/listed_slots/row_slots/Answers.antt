use Rattle.std.proofs.Common.{ap}
use Rattle.cm_abi_programs.specs.SlotPuts.{one_slot}
use Rattle.cm_abi_programs.specs.CodedSlots.{slots_in}
use Rattle.cm_abi_programs.proofs.SlotForms.{seen_Each}
use Rattle.cm_abi_programs.proofs.ShapeLemmas.{becomes}
use Rattle.cm_abi_programs.proofs.listed_slots.row_slots.Goals as goal

pub returns : goal.returns
returns c = becomes slots_in c.one_slot.result _ _ (ap one_slot (seen_Each 0 c.args.distance c.args.count c.args.puts)) c.one_slot.ensures
