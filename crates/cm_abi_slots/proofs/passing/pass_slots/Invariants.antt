use Rattle.cm_abi_slots.proofs.CallLaws.{PassedTo}
use Rattle.cm_abi_slots.proofs.passing.pass_slots.Given as goal

-- the core values before this one are passed
abbrev pub invariant-loop-i : goal.invariant-loop-i
invariant-loop-i l = PassedTo l.steps l.initial.slots l.slots l.i
