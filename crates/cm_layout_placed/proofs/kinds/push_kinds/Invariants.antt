use Rattle.std.proofs.Common.{◌≡◌, ◌≤◌, ◌++◌, length, take}
use Rattle.cm_layout_placed.proofs.kinds.push_kinds.Given as goal

abbrev pub invariant-loop-kind : goal.invariant-loop-kind
invariant-loop-kind l = (l.kinds.items ≡ l.fn.kinds.items ++ take l.kind-index l.more) × (length l.kinds.items ≤ 16)
