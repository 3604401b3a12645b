use Rattle.std.proofs.Common.{◌≡◌, ◌≤◌, ◌++◌, drop, length, map, vec_capacity}
use Rattle.cm_types.specs.CoreValues.{kind_of}
use Rattle.cm_abi_model.specs.Numbers.{slot_number}
use Rattle.cm_abi.specs.Kinds.{AreNumbersOf}
use Rattle.cm_abi.proofs.slots.put_core_values.Given as goal

-- those put and those left are all of them, and there is room for those left
abbrev pub invariant-loop-i : goal.invariant-loop-i
invariant-loop-i l =
    (map kind_of l.values.items ++ drop l.i l.kinds ≡ l.kinds)
    × (map slot_number l.values.items ++ drop l.i l.numbers ≡ l.numbers)
    × AreNumbersOf (drop l.i l.kinds) (drop l.i l.numbers)
    × (length l.values.items ≡ l.i)
    × (length l.kinds ≤ vec_capacity l.values)
