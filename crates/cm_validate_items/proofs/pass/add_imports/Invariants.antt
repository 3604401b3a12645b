use Rattle.std.proofs.Common.{◌≡◌, drop, map}
use Rattle.cm_validate_model.specs.Items.{import_item}
use Rattle.cm_validate_items.specs.Numbers.{numbers_after_all}
use Rattle.cm_validate_items.specs.Shared.{numbers_in}
use Rattle.cm_validate_items.proofs.pass.add_imports.Given as goal

-- those so far, and then what is left, make all
abbrev pub invariant-loop-import : goal.invariant-loop-import
invariant-loop-import l =
    numbers_after_all (numbers_in l.shared) (map import_item (drop l.import-index l.imports))
    ≡ numbers_after_all (numbers_in l.fn.shared) (map import_item l.imports)
