use Rattle.std.proofs.Common.{◌∙◌, ap, map, sym}
use Rattle.cm_binary_model.specs.Trees.{canon_tree, core_instance_tree, section_tree}
use Rattle.cm_binary_model.specs.declared.section.Section.{Section}
use Rattle.cm_validate_model.specs.Items.{items_of}
use Rattle.cm_validate_items.specs.Numbers.{numbers_after_all}
use Rattle.cm_validate_items.specs.Shared.{numbers_in}
use Rattle.cm_validate_items.proofs.NumberLaws.{canons_add_nothing, core_instances_add_nothing}
use Rattle.cm_validate_items.proofs.pass.add_section.Goals as goal

pub returns-in-CoreInstances : goal.returns-in-CoreInstances
returns-in-CoreInstances c =
    core_instances_add_nothing (numbers_in c.args.shared.now) (map core_instance_tree c.in-CoreInstances.field-0.items)
    ∙ ap (λ (x : Section). numbers_after_all (numbers_in c.args.shared.now) (items_of (section_tree x))) (sym c.in-CoreInstances.is)

pub returns-in-Canons : goal.returns-in-Canons
returns-in-Canons c =
    canons_add_nothing (numbers_in c.args.shared.now) (map canon_tree c.in-Canons.field-0.items)
    ∙ ap (λ (x : Section). numbers_after_all (numbers_in c.args.shared.now) (items_of (section_tree x))) (sym c.in-Canons.is)
