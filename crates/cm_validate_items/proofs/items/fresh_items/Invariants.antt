use Rattle.std.proofs.Common.{◌≡◌, ◌++◌, drop}
use Rattle.cm_validate_items.specs.Items.{fresh_from}
use Rattle.cm_validate_items.proofs.items.fresh_items.Given as goal

-- those so far, and those of the items to come
abbrev pub invariant-loop-number : goal.invariant-loop-number
invariant-loop-number l =
    l.fresh.items ++ fresh_from l.number (drop l.number l.items) ≡ fresh_from 0 l.items
