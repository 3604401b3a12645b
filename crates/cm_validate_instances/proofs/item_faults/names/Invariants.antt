use Rattle.std.proofs.Common.{◌≡◌, map, take}
use Rattle.cm_validate_instances.proofs.item_faults.names.Given as goal

-- those of the items so far
abbrev pub invariant-loop-item : goal.invariant-loop-item
invariant-loop-item l = map (λ n. n.now) l.names.items ≡ map (λ i. i.name) (take l.item-index l.items)
