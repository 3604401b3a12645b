use Rattle.std.proofs.Common.{◌≡◌, drop, map}
use Rattle.cm_binary_model.specs.Trees.{section_tree}
use Rattle.cm_validate_model.specs.Items.{all_items}
use Rattle.cm_validate_items.specs.Numbers.{numbers_after_all}
use Rattle.cm_validate_items.specs.Shared.{numbers_in}
use Rattle.cm_validate_items.proofs.pass.add_sections.Given as goal

-- those so far, and then what is left, make all
abbrev pub invariant-loop-section : goal.invariant-loop-section
invariant-loop-section l =
    numbers_after_all (numbers_in l.shared) (all_items (map section_tree (drop l.section-index l.sections)))
    ≡ numbers_after_all (numbers_in l.fn.shared) (all_items (map section_tree l.sections))
