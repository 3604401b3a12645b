use Rattle.std.proofs.Common.{◌≡◌, ◌++◌, drop}
use Rattle.cm_types.specs.ValueTrees.{values_of}
use Rattle.cm_hux_values.specs.Texts.{bytes_in}
use Rattle.cm_hux_values.proofs.bytes.bytes_of.Given as goal

-- the bytes so far, and those that are left, are all
abbrev pub invariant-loop-value : goal.invariant-loop-value
invariant-loop-value l = l.bytes.items ++ bytes_in (values_of (drop l.value-index l.values)) ≡ bytes_in (values_of l.values)
