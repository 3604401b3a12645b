-- The definitions of a component, as its sections have them (Binary.md, "Component Definitions").
use Rattle.cm_types.specs.DefTypes.{def_type_tree}
use Rattle.cm_binary_model.specs.Trees.{alias_tree, canon_tree, core_instance_tree, instance_tree}
use Rattle.cm_validate_model.specs.Items.{Item, core_module_item, core_instance_item, instance_item}
use Rattle.cm_validate_model.specs.Items.{alias_item, type_item, canon_item, import_item}
use Rattle.cm_validate_model.specs.Items.{export_item}
use Rattle.cm_validate_spaces.specs.declared.items.SectionItem.{SectionItem}
use Rattle.cm_validate_spaces.specs.declared.items.SectionItem.TheVariants as item

abbrev pub item_of : SectionItem → Item
item_of item.CoreModule = core_module_item
item_of (item.CoreInstance i) = core_instance_item (core_instance_tree i.now)
item_of (item.Instance i) = instance_item (instance_tree i.now)
item_of (item.Alias a) = alias_item (alias_tree a.now)
item_of (item.Type t) = type_item (def_type_tree t.now)
item_of (item.Canon c) = canon_item (canon_tree c.now)
item_of (item.Import i) = import_item i.now
item_of (item.Export e) = export_item e.now
