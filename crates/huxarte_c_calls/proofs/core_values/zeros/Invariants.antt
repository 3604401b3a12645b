use Rattle.std.proofs.Common.{◌≡◌, map, take}
use Rattle.cm_types.specs.CoreValues.{kind_of}
use Rattle.huxarte_c_calls.proofs.core_values.zeros.Given as goal

-- a core value of each kind so far
abbrev pub invariant-loop-kind : goal.invariant-loop-kind
invariant-loop-kind l = map kind_of l.values.items ≡ take l.kind-index l.kinds
