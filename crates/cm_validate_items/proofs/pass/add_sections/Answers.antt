use Rattle.std.proofs.Common.{rules, ◌∙◌}
use Rattle.cm_validate_items.specs.Shared.{numbers_in}
use Rattle.cm_validate_items.proofs.NumberLaws.{section_more}
use Rattle.cm_validate_items.proofs.pass.add_sections.Goals as goal

pub loop-section-preserved : goal.loop-section-preserved
loop-section-preserved c =
    section_more (numbers_in c.loop-section.shared) (numbers_in c.add_section.new.shared) c.args.sections.now c.loop-section.section-index c.section-item.result (search rules) (search rules) c.in_ok-add_section.ensures
    ∙ c.loop-section.invariant
