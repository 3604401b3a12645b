use Rattle.std.proofs.Common.{◌≡◌, map, drop}
use Rattle.std.specs.List.{list_all}
use Rattle.cm_validate_instances.specs.Names.{are_all_well_named, is_named_well}
use Rattle.cm_validate_instances.specs.ItemSketches.{sketch_named}
use Rattle.cm_validate_instances.proofs.names.are_all_well_named.Given as goal

-- those to come are well named where all are
abbrev pub invariant-loop-item : goal.invariant-loop-item
invariant-loop-item l =
    list_all (is_named_well (map sketch_named l.items)) (map sketch_named (drop l.item-index l.items))
    ≡ are_all_well_named (map sketch_named l.items)
