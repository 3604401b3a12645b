use Rattle.std.proofs.Common.{◌≡◌, map, take}
use Rattle.cm_validate_core.specs.NameMaps.{entries_of}
use Rattle.cm_validate.specs.Items.{member_item}
use Rattle.cm_validate.proofs.items.member_items.Given as goal

abbrev pub invariant-loop-number : goal.invariant-loop-number
invariant-loop-number l = l.items.items ≡ map member_item (take l.number (entries_of l.members))
