use Rattle.std.proofs.Common.{◌≡◌, drop, map}
use Rattle.cm_types.specs.DefTypes.{def_type_tree}
use Rattle.cm_validate_model.specs.Items.{type_item}
use Rattle.cm_validate_items.specs.Numbers.{numbers_after_all}
use Rattle.cm_validate_items.specs.Shared.{numbers_in}
use Rattle.cm_validate_items.proofs.pass.add_types.Given as goal

-- those so far, and then what is left, make all
abbrev pub invariant-loop : goal.invariant-loop
invariant-loop l =
    numbers_after_all (numbers_in l.shared) (map type_item (map def_type_tree (drop l.index l.types)))
    ≡ numbers_after_all (numbers_in l.fn.shared) (map type_item (map def_type_tree l.types))
