use Rattle.std.proofs.Common.{◌≡◌, length, map, take}
use Rattle.cm_abi_model.specs.Numbers.{slot_number}
use Rattle.huxarte_c_calls.proofs.core_values.put_values.Given as goal

-- the slots so far have the numbers of their core values
abbrev pub invariant-loop-i : goal.invariant-loop-i
invariant-loop-i l =
    (length l.slots ≡ length l.values) × (take l.i l.slots ≡ map slot_number (take l.i l.values))
