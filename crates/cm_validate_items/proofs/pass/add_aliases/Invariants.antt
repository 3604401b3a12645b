use Rattle.std.proofs.Common.{◌≡◌, drop, map}
use Rattle.cm_binary_model.specs.Trees.{alias_tree}
use Rattle.cm_validate_model.specs.Items.{alias_item}
use Rattle.cm_validate_items.specs.Numbers.{numbers_after_all}
use Rattle.cm_validate_items.specs.Shared.{numbers_in}
use Rattle.cm_validate_items.proofs.pass.add_aliases.Given as goal

-- those so far, and then what is left, make all
abbrev pub invariant-loop-alias : goal.invariant-loop-alias
invariant-loop-alias l =
    numbers_after_all (numbers_in l.shared) (map alias_item (map alias_tree (drop l.alias-index l.aliases)))
    ≡ numbers_after_all (numbers_in l.fn.shared) (map alias_item (map alias_tree l.aliases))
