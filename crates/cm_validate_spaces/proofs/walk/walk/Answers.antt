use Rattle.std.proofs.Common.{rules, Some, None}
use Rattle.cm_binary_model.specs.Trees.{section_tree}
use Rattle.cm_validate_model.specs.Items.{items_of}
use Rattle.cm_validate_spaces.proofs.WalkLaws.{section_there, sections_over, walks_as, walks_break, walks_end, walks_go_on}
use Rattle.cm_validate_spaces.proofs.walk.walk.Goals as goal

pub returns-in-Some : goal.returns-in-Some
returns-in-Some c = walks_break c.args.component.now c.loop-at.at (section_tree c.section-item.result) c.in-Some.item c.in-Some.reason c.loop-at.spaces c.walk_section.new.spaces (section_there c.sections-section-items.result.now c.args.component.now c.loop-at.at c.section-item.result c.sections-section-items.ensures.sections (search rules) (search rules)) (walks_as (items_of (section_tree c.section-item.result)) c.loop-at.spaces c.walk_section.new.spaces c.walk_section.result (Some (c.in-Some.item, c.in-Some.reason)) (search rules) c.walk_section.ensures) c.loop-at.invariant

pub loop-at-preserved : goal.loop-at-preserved
loop-at-preserved c = walks_go_on c.args.component.now c.loop-at.at (section_tree c.section-item.result) c.loop-at.spaces c.walk_section.new.spaces (section_there c.sections-section-items.result.now c.args.component.now c.loop-at.at c.section-item.result c.sections-section-items.ensures.sections (search rules) (search rules)) (walks_as (items_of (section_tree c.section-item.result)) c.loop-at.spaces c.walk_section.new.spaces c.walk_section.result None (search rules) c.walk_section.ensures) c.loop-at.invariant

pub returns : goal.returns
returns c = walks_end c.args.component.now c.loop-at.at c.loop-at.spaces (sections_over c.sections-section-items.result.now c.args.component.now c.loop-at.at c.sections-section-items.ensures.sections (search rules)) c.loop-at.invariant
