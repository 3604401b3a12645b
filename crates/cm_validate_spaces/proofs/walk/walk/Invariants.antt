use Rattle.std.proofs.Common.{take}
use Rattle.cm_validate_model.specs.Items.{all_items}
use Rattle.cm_validate_model.specs.Spaces.{after_items, empty_spaces}
use Rattle.cm_validate_spaces.specs.IndexSpaces.{IsAt}
use Rattle.cm_validate_spaces.proofs.WalkLaws.{AreFine}
use Rattle.cm_validate_spaces.proofs.walk.walk.Given as goal

-- the sections so far break nothing, and the spaces are those after them
abbrev pub invariant-loop-at : goal.invariant-loop-at
invariant-loop-at l =
    AreFine empty_spaces (all_items (take l.at l.fn.component)) × IsAt l.spaces (after_items empty_spaces (all_items (take l.at l.fn.component)))
