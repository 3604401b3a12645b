-- The trees that the code's are.
use Rattle.std.specs.Prelude.{map}
use Rattle.cm_wit_reading.specs.TypeViews.{payload_tree, type_tree}
use Rattle.cm_wit_reading.specs.SignatureViews.{typed_tree, func_tree, path_tree}
use Rattle.cm_wit_reading.specs.declared.interfaces.UsedName as used_name
use Rattle.cm_wit_reading.specs.declared.interfaces.Use as use_item
use Rattle.cm_wit_reading.specs.declared.interfaces.Case as case_item
use Rattle.cm_wit_reading.specs.declared.interfaces.ResourceFunc as func_item
use Rattle.cm_wit_reading.specs.declared.interfaces.ResourceFunc.TheVariants as func_is
use Rattle.cm_wit_reading.specs.declared.interfaces.TypeDef as type_item
use Rattle.cm_wit_reading.specs.declared.interfaces.TypeDef.TheVariants as type_is
use Rattle.cm_wit_reading.specs.declared.interfaces.InterfaceItem as interface_part
use Rattle.cm_wit_reading.specs.declared.interfaces.InterfaceItem.TheVariants as part_is
use Rattle.cm_wit_reading.specs.declared.interfaces.Interface as interface_item
use Rattle.cm_wit_reading.specs.declared.worlds.WorldExtern as extern
use Rattle.cm_wit_reading.specs.declared.worlds.WorldExtern.TheVariants as extern_is
use Rattle.cm_wit_reading.specs.declared.worlds.WorldItem as world_part
use Rattle.cm_wit_reading.specs.declared.worlds.WorldItem.TheVariants as world_part_is
use Rattle.cm_wit_reading.specs.declared.worlds.World as world_item
use Rattle.cm_wit_reading.specs.declared.file.FileItem as file_part
use Rattle.cm_wit_reading.specs.declared.file.FileItem.TheVariants as file_part_is
use Rattle.cm_wit_reading.specs.declared.file.WitFile.{WitFile}
use Rattle.cm_wit_reading.specs.Trees

abbrev pub used_name_tree : used_name.UsedName → Trees.UsedName
used_name_tree u = record { name = u.name; new_name = u.new_name }

abbrev pub use_tree : use_item.Use → Trees.Use
use_tree u = record { path = path_tree u.path; names = map used_name_tree u.names.items }

abbrev pub case_tree : case_item.Case → Trees.Case
case_tree c = record { name = c.name; ty = payload_tree c.ty }

abbrev pub resource_func_tree : func_item.ResourceFunc → Trees.ResourceFunc
resource_func_tree (func_is.Method name f) = Trees.method name (func_tree f)
resource_func_tree (func_is.Static name f) = Trees.static name (func_tree f)
resource_func_tree (func_is.Constructor ps) = Trees.constructor (map typed_tree ps.items)

abbrev pub type_def_tree : type_item.TypeDef → Trees.TypeDef
type_def_tree (type_is.Alias t) = Trees.alias (type_tree t)
type_def_tree (type_is.Record fs) = Trees.record_of (map typed_tree fs.items)
type_def_tree (type_is.Variant cs) = Trees.variant (map case_tree cs.items)
type_def_tree (type_is.Enum names) = Trees.enum names.items
type_def_tree (type_is.Flags names) = Trees.flags names.items
type_def_tree (type_is.Resource fs) = Trees.resource (map resource_func_tree fs.items)

abbrev pub interface_item_tree : interface_part.InterfaceItem → Trees.InterfaceItem
interface_item_tree (part_is.Use u) = Trees.uses (use_tree u)
interface_item_tree (part_is.Type name t) = Trees.defines name (type_def_tree t)
interface_item_tree (part_is.Func name f) = Trees.has_func name (func_tree f)

abbrev pub interface_tree : interface_item.Interface → Trees.Interface
interface_tree i = record { name = i.name; items = map interface_item_tree i.items.items }

abbrev pub extern_tree : extern.WorldExtern → Trees.WorldExtern
extern_tree (extern_is.Interface path) = Trees.interface_at (path_tree path)
extern_tree (extern_is.Func name f) = Trees.named_func name (func_tree f)

abbrev pub world_item_tree : world_part.WorldItem → Trees.WorldItem
world_item_tree (world_part_is.Import e) = Trees.imports (extern_tree e)
world_item_tree (world_part_is.Export e) = Trees.exports (extern_tree e)

abbrev pub world_tree : world_item.World → Trees.World
world_tree w = record { name = w.name; items = map world_item_tree w.items.items }

abbrev pub file_item_tree : file_part.FileItem → Trees.FileItem
file_item_tree (file_part_is.Interface i) = Trees.interface (interface_tree i)
file_item_tree (file_part_is.World w) = Trees.world (world_tree w)

abbrev pub file_tree : WitFile → Trees.File
file_tree f = record {
  namespace = f.namespace;
  pkg = f.package;
  version = f.version;
  items = map file_item_tree f.items.items;
}
