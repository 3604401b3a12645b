use Rattle.std.proofs.Common.{rules, ◌≡◌, Option, Some, slice_get, subst, take}
use Rattle.cm_binary_model.specs.Trees.{section_tree}
use Rattle.cm_validate_model.specs.declared.fault.ValidReason.{ValidReason}
use Rattle.cm_validate_model.specs.Items.{Item, items_of}
use Rattle.cm_validate_model.specs.Spaces.{after_items}
use Rattle.cm_validate_spaces.specs.IndexSpaces.{Answers}
use Rattle.cm_validate_spaces.proofs.WalkLaws.{walk_breaks, walk_ends, walk_goes_on, walk_lacks}
use Rattle.cm_validate_spaces.proofs.walk.walk_items.Goals as goal

pub walk_item-requires : goal.walk_item-requires
walk_item-requires c =
    let s = c.requires.0 in
    (after_items s (take c.loop-number.number (items_of (section_tree c.args.section.now))), (c.loop-number.invariant s c.requires.1).1)

pub returns-in-Ok-Some : goal.returns-in-Ok-Some
returns-in-Ok-Some c = λ s at. walk_breaks s (items_of (section_tree c.args.section.now)) c.loop-number.number c.in-Ok-Some.reason c.loop-number.spaces c.walk_item.new.spaces (search rules) (subst (λ (r : Option ValidReason). (x : Item) → slice_get (items_of (section_tree c.args.section.now)) c.loop-number.number ≡ Some x → Answers x c.loop-number.spaces r c.walk_item.new.spaces) c.in-Ok-Some.field-0-is c.in-Ok-Some.ensures) (c.loop-number.invariant s at)

pub returns-in-Err : goal.returns-in-Err
returns-in-Err c = λ s at. walk_lacks s (items_of (section_tree c.args.section.now)) c.loop-number.number c.loop-number.spaces (c.loop-number.invariant s at)

pub loop-number-preserved : goal.loop-number-preserved
loop-number-preserved c = λ s at. walk_goes_on s (items_of (section_tree c.args.section.now)) c.loop-number.number c.loop-number.spaces c.walk_item.new.spaces (search rules) (subst (λ (r : Option ValidReason). (x : Item) → slice_get (items_of (section_tree c.args.section.now)) c.loop-number.number ≡ Some x → Answers x c.loop-number.spaces r c.walk_item.new.spaces) c.in-Ok-None.field-0-is c.in-Ok-None.ensures) (c.loop-number.invariant s at)

pub returns : goal.returns
returns c = λ s at. walk_ends s (items_of (section_tree c.args.section.now)) c.loop-number.number c.loop-number.spaces (search rules) (c.loop-number.invariant s at)
