use Rattle.std.proofs.Common.{◌≡◌, map, take}
use Rattle.cm_types.specs.CoreValues.{kind_of}
use Rattle.rows_calls.proofs.scanned.zeros.Given as goal

-- a core value of each kind so far
abbrev pub invariant-loop-kind : goal.invariant-loop-kind
invariant-loop-kind l = map kind_of l.slots.items ≡ take l.kind-index l.kinds
