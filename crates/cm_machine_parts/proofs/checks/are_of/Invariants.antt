use Rattle.std.proofs.Common.{◌≡◌, map, take}
use Rattle.cm_types.specs.CoreValues.{kind_of}
use Rattle.cm_machine_parts.proofs.checks.are_of.Given as goal

abbrev pub invariant-loop-i : goal.invariant-loop-i
invariant-loop-i l = take l.i (map kind_of l.values) ≡ take l.i l.kinds
