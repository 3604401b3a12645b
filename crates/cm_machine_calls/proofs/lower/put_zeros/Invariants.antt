use Rattle.std.proofs.Common.{◌≡◌, map, take}
use Rattle.cm_types.specs.CoreValues.{kind_of}
use Rattle.cm_machine_calls.proofs.lower.put_zeros.Given as goal

abbrev pub invariant-loop-kind : goal.invariant-loop-kind
invariant-loop-kind l = map kind_of l.values ≡ take l.kind-index l.kinds
