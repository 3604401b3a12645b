use Rattle.std.proofs.Common.{rules, ◌∙◌}
use Rattle.cm_types.specs.DefTypes.{def_type_tree}
use Rattle.cm_binary_model.specs.Trees.{alias_tree, canon_tree, core_instance_tree, instance_tree}
use Rattle.cm_validate_model.specs.Items.{alias_item, canon_item, core_instance_item, export_item}
use Rattle.cm_validate_model.specs.Items.{import_item, instance_item, type_item}
use Rattle.cm_validate_spaces.proofs.WalkLaws.{found_at, item_itself, item_there}
use Rattle.cm_validate_spaces.proofs.items.item_at.Goals as goal

pub returns-in_ok-get-in-CoreInstances : goal.returns-in_ok-get-in-CoreInstances
returns-in_ok-get-in-CoreInstances c = item_there core_instance_tree core_instance_item c.in-CoreInstances.items.items c.args.number c.in_ok-get-in-CoreInstances.field-0.now (found_at c.in-CoreInstances.items.items c.deref.result.now c.args.number c.in_ok-get-in-CoreInstances.field-0.now c.deref.ensures.value (search rules) (search rules)) ∙ (search rules)

pub returns-in_ok-get-in-Instances : goal.returns-in_ok-get-in-Instances
returns-in_ok-get-in-Instances c = item_there instance_tree instance_item c.in-Instances.items.items c.args.number c.in_ok-get-in-Instances.field-0.now (found_at c.in-Instances.items.items c.deref-in-Instances.result.now c.args.number c.in_ok-get-in-Instances.field-0.now c.deref-in-Instances.ensures.value (search rules) (search rules)) ∙ (search rules)

pub returns-in_ok-get-in-Aliases : goal.returns-in_ok-get-in-Aliases
returns-in_ok-get-in-Aliases c = item_there alias_tree alias_item c.in-Aliases.items.items c.args.number c.in_ok-get-in-Aliases.field-0.now (found_at c.in-Aliases.items.items c.deref-in-Aliases.result.now c.args.number c.in_ok-get-in-Aliases.field-0.now c.deref-in-Aliases.ensures.value (search rules) (search rules)) ∙ (search rules)

pub returns-in_ok-get-in-Types : goal.returns-in_ok-get-in-Types
returns-in_ok-get-in-Types c = item_there def_type_tree type_item c.in-Types.items.items c.args.number c.in_ok-get-in-Types.field-0.now (found_at c.in-Types.items.items c.deref-in-Types.result.now c.args.number c.in_ok-get-in-Types.field-0.now c.deref-in-Types.ensures.value (search rules) (search rules)) ∙ (search rules)

pub returns-in_ok-get-in-Canons : goal.returns-in_ok-get-in-Canons
returns-in_ok-get-in-Canons c = item_there canon_tree canon_item c.in-Canons.items.items c.args.number c.in_ok-get-in-Canons.field-0.now (found_at c.in-Canons.items.items c.deref-in-Canons.result.now c.args.number c.in_ok-get-in-Canons.field-0.now c.deref-in-Canons.ensures.value (search rules) (search rules)) ∙ (search rules)

pub returns-in_ok-get-in-Imports : goal.returns-in_ok-get-in-Imports
returns-in_ok-get-in-Imports c = item_itself import_item c.in-Imports.items.items c.args.number c.in_ok-get-in-Imports.field-0.now (found_at c.in-Imports.items.items c.deref-in-Imports.result.now c.args.number c.in_ok-get-in-Imports.field-0.now c.deref-in-Imports.ensures.value (search rules) (search rules)) ∙ (search rules)

pub returns-in_ok-get-in-Exports : goal.returns-in_ok-get-in-Exports
returns-in_ok-get-in-Exports c = item_itself export_item c.in-Exports.items.items c.args.number c.in_ok-get-in-Exports.field-0.now (found_at c.in-Exports.items.items c.deref-in-Exports.result.now c.args.number c.in_ok-get-in-Exports.field-0.now c.deref-in-Exports.ensures.value (search rules) (search rules)) ∙ (search rules)
