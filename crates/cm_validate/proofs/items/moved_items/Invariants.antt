use Rattle.std.proofs.Common.{◌≡◌, map, take}
use Rattle.cm_validate.specs.Items.{moved_item}
use Rattle.cm_validate.proofs.items.moved_items.Given as goal

abbrev pub invariant-loop-item : goal.invariant-loop-item
invariant-loop-item l = l.moved.items ≡ map (moved_item l.by) (take l.item-index l.items)
