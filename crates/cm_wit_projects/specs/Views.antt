-- The packages and units that the code's are.
use Rattle.std.specs.Prelude.{List, Option, None, Some, map}
use Rattle.std.specs.Borrow.{Bor}
use Rattle.std.specs.Global.{Vec}
use Rattle.cm_wit_projects_reading.specs.Trees.{File, Gated, PackageItem, PackageName}
use Rattle.cm_wit_projects_reading.specs.Views.{file_tree, package_item_tree, package_name_tree}
use Rattle.cm_wit_projects_reading.specs.Views.{placed_gate_tree}
use Rattle.cm_wit_projects_reading.specs.declared.file.PackageName as name_code
use Rattle.cm_wit_projects_reading.specs.declared.file.WitFile.{WitFile}
use Rattle.cm_wit_projects.specs.declared.packages.DeclaredPackage as package_code
use Rattle.cm_wit_projects.specs.declared.units.ItemRef as item_code
use Rattle.cm_wit_projects.specs.declared.units.Unit as unit_code
use Rattle.cm_wit_projects.specs.Packages.{DeclaredPackage}
use Rattle.cm_wit_projects.specs.Units.{Unit}

-- the files of folders
abbrev pub trees : List (Vec WitFile) → List (List File)
trees all = map (λ fs. map file_tree fs.items) all

abbrev pub name_view : Option (Bor name_code.PackageName) → Option PackageName
name_view None = None
name_view (Some p) = Some (package_name_tree p.now)

abbrev pub package_view : package_code.DeclaredPackage → DeclaredPackage
package_view d = record {
  folder = d.folder;
  file = d.file;
  left = d.left;
  name = package_name_tree d.name.now;
}

abbrev pub item_view : item_code.ItemRef → Gated PackageItem
item_view r = record {
  gates = map placed_gate_tree r.gates.now;
  item = (r.left, package_item_tree r.item.now);
}

abbrev pub unit_view : unit_code.Unit → Unit
unit_view u = record {
  folder = u.folder;
  file = u.file;
  name = package_name_tree u.name.now;
  items = map item_view u.items.items;
}
