use Rattle.std.proofs.Common.{drop}
use Rattle.cm_validate_items.specs.Items.{AreFound}
use Rattle.cm_validate_items.proofs.items.by_name.Given as goal

-- those of the last items, which are read from behind
abbrev pub invariant-loop-number : goal.invariant-loop-number
invariant-loop-number l = AreFound l.named l.number (drop l.number l.items)
