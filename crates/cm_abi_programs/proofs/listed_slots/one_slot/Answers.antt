use Rattle.std.proofs.Common.{ap}
use Rattle.cm_abi_programs.specs.CodedSlots.{slots_in}
use Rattle.cm_abi_programs.proofs.listed_slots.one_slot.Goals as goal

pub returns : goal.returns
returns c = ap slots_in c.in_ok-vec.ensures.items
