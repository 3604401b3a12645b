use Rattle.std.proofs.Common.{take}
use Rattle.cm_binary_model.specs.Trees.{section_tree}
use Rattle.cm_validate_model.specs.Items.{items_of}
use Rattle.cm_validate_model.specs.Spaces.{Spaces, after_items}
use Rattle.cm_validate_spaces.specs.IndexSpaces.{IsAt}
use Rattle.cm_validate_spaces.proofs.WalkLaws.{AreFine}
use Rattle.cm_validate_spaces.proofs.walk.walk_items.Given as goal

-- the items so far break nothing, and the spaces are those after them
abbrev pub invariant-loop-number : goal.invariant-loop-number
invariant-loop-number l =
    (s : Spaces) → IsAt l.fn.spaces s
    → AreFine s (take l.number (items_of (section_tree l.fn.section))) × IsAt l.spaces (after_items s (take l.number (items_of (section_tree l.fn.section))))
