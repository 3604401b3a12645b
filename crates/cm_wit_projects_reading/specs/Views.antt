-- The trees that the code's are.
use Rattle.std.specs.Prelude.{map}
use Rattle.std.specs.Option.{option_map}
use Rattle.cm_wit_reading.specs.SignatureViews.{func_tree, path_tree}
use Rattle.cm_wit_reading.specs.Views.{resource_func_tree, type_def_tree, use_tree}
use Rattle.cm_wit_projects_reading.specs.declared.gates.Gate as gate_code
use Rattle.cm_wit_projects_reading.specs.declared.gates.Gate.TheVariants as gate_is
use Rattle.cm_wit_projects_reading.specs.declared.gates.PlacedGate as placed_gate
use Rattle.cm_wit_projects_reading.specs.declared.gates.Gated as gated_code
use Rattle.cm_wit_projects_reading.specs.declared.gates.Kept as kept_code
use Rattle.cm_wit_projects_reading.specs.declared.gates.Kept.TheVariants as kept_is
use Rattle.cm_wit_projects_reading.specs.declared.interfaces.ResourceItem as resource_code
use Rattle.cm_wit_projects_reading.specs.declared.interfaces.ResourceItem.TheVariants as resource_is
use Rattle.cm_wit_projects_reading.specs.declared.interfaces.TypeItem as type_code
use Rattle.cm_wit_projects_reading.specs.declared.interfaces.TypeItem.TheVariants as type_is
use Rattle.cm_wit_projects_reading.specs.declared.interfaces.InterfaceItem as interface_part
use Rattle.cm_wit_projects_reading.specs.declared.interfaces.InterfaceItem.TheVariants as part_is
use Rattle.cm_wit_projects_reading.specs.declared.interfaces.Interface as interface_code
use Rattle.cm_wit_projects_reading.specs.declared.worlds.WorldExtern as extern
use Rattle.cm_wit_projects_reading.specs.declared.worlds.WorldExtern.TheVariants as extern_is
use Rattle.cm_wit_projects_reading.specs.declared.worlds.Renamed as renamed_code
use Rattle.cm_wit_projects_reading.specs.declared.worlds.Include as include_code
use Rattle.cm_wit_projects_reading.specs.declared.worlds.WorldItem as world_part
use Rattle.cm_wit_projects_reading.specs.declared.worlds.WorldItem.TheVariants as world_part_is
use Rattle.cm_wit_projects_reading.specs.declared.worlds.World as world_code
use Rattle.cm_wit_projects_reading.specs.declared.file.PackageName as name_code
use Rattle.cm_wit_projects_reading.specs.declared.file.TopUse as top_use_code
use Rattle.cm_wit_projects_reading.specs.declared.file.PackageItem as package_part
use Rattle.cm_wit_projects_reading.specs.declared.file.PackageItem.TheVariants as package_part_is
use Rattle.cm_wit_projects_reading.specs.declared.file.NestedPackage as nested_code
use Rattle.cm_wit_projects_reading.specs.declared.file.FileItem as file_part
use Rattle.cm_wit_projects_reading.specs.declared.file.FileItem.TheVariants as file_part_is
use Rattle.cm_wit_projects_reading.specs.declared.file.First as first_code
use Rattle.cm_wit_projects_reading.specs.declared.file.First.TheVariants as first_is
use Rattle.cm_wit_projects_reading.specs.declared.file.WitFile.{WitFile}
use Rattle.cm_wit_projects_reading.specs.Trees

abbrev pub gate_tree : gate_code.Gate → Trees.Gate
gate_tree (gate_is.Since v) = Trees.since v
gate_tree (gate_is.Unstable name) = Trees.unstable name
gate_tree (gate_is.Deprecated v) = Trees.deprecated v

abbrev pub placed_gate_tree : placed_gate.PlacedGate → Trees.Placed Trees.Gate
placed_gate_tree g = (g.left, gate_tree g.gate)

abbrev pub gated_tree : {X A : Type 0} → (X → A) → gated_code.Gated X → Trees.Gated A
gated_tree view g = record {
  gates = map placed_gate_tree g.gates.items;
  item = (g.left, view g.item);
}

abbrev pub kept_tree : {X A : Type 0} → (X → A) → kept_code.Kept X → Trees.Kept A
kept_tree view (kept_is.Read x) = Trees.kept (view x)
kept_tree view (kept_is.LeftOut place) = Trees.left_out place

abbrev pub resource_item_tree : resource_code.ResourceItem → Trees.ResourceItem
resource_item_tree (resource_is.Read f) = Trees.has (resource_func_tree f)
resource_item_tree (resource_is.LeftOut name place) = Trees.lacks name place

abbrev pub type_item_tree : type_code.TypeItem → Trees.TypeItem
type_item_tree (type_is.Def t) = Trees.def (kept_tree type_def_tree t)
type_item_tree (type_is.Resource fs) = Trees.resource (map (gated_tree resource_item_tree) fs.items)

abbrev pub interface_item_tree : interface_part.InterfaceItem → Trees.InterfaceItem
interface_item_tree (part_is.Use u) = Trees.uses (use_tree u)
interface_item_tree (part_is.Type name t) = Trees.defines name (type_item_tree t)
interface_item_tree (part_is.Func name f) = Trees.has_func name (kept_tree func_tree f)

abbrev pub interface_tree : interface_code.Interface → Trees.Interface
interface_tree i = record {
  name = i.name;
  items = map (gated_tree interface_item_tree) i.items.items;
}

abbrev pub extern_tree : extern.WorldExtern → Trees.WorldExtern
extern_tree (extern_is.Path p) = Trees.interface_at (path_tree p)
extern_tree (extern_is.Func name f) = Trees.named_func name (kept_tree func_tree f)
extern_tree (extern_is.Interface name xs) =
    Trees.in_place name (map (gated_tree interface_item_tree) xs.items)

abbrev pub renamed_tree : renamed_code.Renamed → Trees.Renamed
renamed_tree r = record { name = r.name; new_name = r.new_name }

abbrev pub include_tree : include_code.Include → Trees.Include
include_tree i = record { path = path_tree i.path; renamed = map renamed_tree i.renamed.items }

abbrev pub world_item_tree : world_part.WorldItem → Trees.WorldItem
world_item_tree (world_part_is.Import e) = Trees.imports (extern_tree e)
world_item_tree (world_part_is.Export e) = Trees.exports (extern_tree e)
world_item_tree (world_part_is.Use u) = Trees.uses_types (use_tree u)
world_item_tree (world_part_is.Type name t) = Trees.defines_type name (type_item_tree t)
world_item_tree (world_part_is.Include i) = Trees.includes (include_tree i)

abbrev pub world_tree : world_code.World → Trees.World
world_tree w = record { name = w.name; items = map (gated_tree world_item_tree) w.items.items }

abbrev pub package_name_tree : name_code.PackageName → Trees.PackageName
package_name_tree p = record { namespace = p.namespace; name = p.name; version = p.version }

abbrev pub top_use_tree : top_use_code.TopUse → Trees.TopUse
top_use_tree u = record { path = path_tree u.path; new_name = u.new_name }

abbrev pub package_item_tree : package_part.PackageItem → Trees.PackageItem
package_item_tree (package_part_is.Use u) = Trees.top_use (top_use_tree u)
package_item_tree (package_part_is.Interface i) = Trees.interface (interface_tree i)
package_item_tree (package_part_is.World w) = Trees.world (world_tree w)

abbrev pub nested_tree : nested_code.NestedPackage → Trees.NestedPackage
nested_tree p = record {
  name = package_name_tree p.name;
  items = map (gated_tree package_item_tree) p.items.items;
}

abbrev pub file_item_tree : file_part.FileItem → Trees.FileItem
file_item_tree (file_part_is.Item x) = Trees.item (package_item_tree x)
file_item_tree (file_part_is.Package p) = Trees.nested (nested_tree p)

abbrev pub first_tree : first_code.First → Trees.First
first_tree (first_is.Line name) = Trees.line (package_name_tree name)
first_tree (first_is.Body p) = Trees.body (nested_tree p)

abbrev pub file_tree : WitFile → Trees.File
file_tree f = record {
  pkg = option_map package_name_tree f.package;
  items = map (gated_tree file_item_tree) f.items.items;
}
