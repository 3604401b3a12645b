use Rattle.std.proofs.Common.{◌≡◌, drop, map}
use Rattle.cm_validate_model.specs.Items.{export_item}
use Rattle.cm_validate_items.specs.Numbers.{numbers_after_all}
use Rattle.cm_validate_items.specs.Shared.{numbers_in}
use Rattle.cm_validate_items.proofs.pass.add_exports.Given as goal

-- those so far, and then what is left, make all
abbrev pub invariant-loop-export : goal.invariant-loop-export
invariant-loop-export l =
    numbers_after_all (numbers_in l.shared) (map export_item (drop l.export-index l.exports))
    ≡ numbers_after_all (numbers_in l.fn.shared) (map export_item l.exports)
