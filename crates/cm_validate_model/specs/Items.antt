-- The definitions of a component, one after another (Binary.md, "Component Definitions").
use Rattle.std.specs.Prelude.{List, [], ◌∷◌, ◌++◌, map}
use Rattle.cm_types.specs.DefTypes.{DefTypeTree}
use Rattle.cm_binary_model.specs.Trees.{CoreInstanceTree, AliasTree, CanonTree, SectionTree, custom}
use Rattle.cm_binary_model.specs.Trees.{core_module, core_instances, instances, aliases, types}
use Rattle.cm_binary_model.specs.Trees.{canons}
use Rattle.cm_binary_model.specs.Trees.{imports, exports}
use Rattle.cm_binary_model.specs.declared.instances.InlineExport.{InlineExport}
use Rattle.cm_binary_model.specs.declared.externs.Import.{Import}
use Rattle.cm_binary_model.specs.declared.externs.Export.{Export}

-- one definition of a component, of whatever section
pub data Item : Type 0 where
  core_module_item : Item
  core_instance_item : CoreInstanceTree → Item
  instance_item : List InlineExport → Item
  alias_item : AliasTree → Item
  type_item : DefTypeTree → Item
  canon_item : CanonTree → Item
  import_item : Import → Item
  export_item : Export → Item

-- what stands in a section: a custom section has no items, a core module is one
abbrev pub items_of : SectionTree → List Item
items_of (custom name bytes) = []
items_of (core_module bytes) = core_module_item ∷ []
items_of (core_instances xs) = map core_instance_item xs
items_of (instances xs) = map instance_item xs
items_of (aliases xs) = map alias_item xs
items_of (types xs) = map type_item xs
items_of (canons xs) = map canon_item xs
items_of (imports xs) = map import_item xs
items_of (exports xs) = map export_item xs

-- the items of these sections, in order
abbrev pub all_items : List SectionTree → List Item
all_items [] = []
all_items (s ∷ ss) = items_of s ++ all_items ss
