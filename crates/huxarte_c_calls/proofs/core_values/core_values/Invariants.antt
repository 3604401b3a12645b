use Rattle.std.proofs.Common.{◌≡◌, ◌++◌, drop}
use Rattle.huxarte_c_calls.specs.HandedOver.{core_values_of}
use Rattle.huxarte_c_calls.proofs.core_values.core_values.Given as goal

-- the core values so far, and those of what is left, are all of them
abbrev pub invariant-loop-i : goal.invariant-loop-i
invariant-loop-i l =
    l.values.items ++ core_values_of (drop l.i l.kinds) (drop l.i l.numbers) ≡ core_values_of l.kinds l.numbers
