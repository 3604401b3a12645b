use Rattle.cm_binary_model.specs.Trees.{section_tree}
use Rattle.cm_validate_model.specs.Items.{items_of}
use Rattle.cm_validate_spaces.proofs.WalkLaws.{walk_begins, walk_lacks}
use Rattle.cm_validate_spaces.proofs.walk.walk_section.Goals as goal

pub walk_items-requires : goal.walk_items-requires
walk_items-requires c = (c.requires.0, c.make_room.ensures c.requires.0 c.requires.1)

pub returns-in-Ok : goal.returns-in-Ok
returns-in-Ok c = λ s at. c.walk_items.ensures s (c.make_room.ensures s at)

pub returns-in-Err : goal.returns-in-Err
returns-in-Err c = λ s at.
    let items = items_of (section_tree c.args.section.now) in
    walk_lacks s items 0 c.make_room.new.spaces
    (walk_begins s items c.make_room.new.spaces (c.make_room.ensures s at))
