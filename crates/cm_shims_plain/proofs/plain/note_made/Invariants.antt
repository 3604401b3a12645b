use Rattle.std.proofs.Common.{◌≡◌, ◌≤◌, ◌++◌, ◌-◌, length, max, replicate}
use Rattle.cm_shims_plain.proofs.plain.note_made.Given as goal

abbrev pub invariant-loop-made : goal.invariant-loop-made
invariant-loop-made l =
    (length l.fn.from.items ≤ l._made)
    × (l._made ≤ max (length l.fn.from.items) l.count)
    × (l.from.items ≡ l.fn.from.items ++ replicate (l._made - length l.fn.from.items) l.instance)
