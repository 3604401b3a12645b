-- The interfaces, worlds and names that the code's are.
use Rattle.std.specs.Prelude.{map}
use Rattle.cm_wit_reading.specs.SignatureViews.{path_tree}
use Rattle.cm_wit_projects_reading.specs.Views.{interface_tree, placed_gate_tree, world_tree}
use Rattle.cm_wit_projects.specs.declared.listing.Body as body_code
use Rattle.cm_wit_projects.specs.declared.listing.Body.TheVariants as body_is
use Rattle.cm_wit_projects.specs.declared.listing.Declared as declared_code
use Rattle.cm_wit_projects.specs.declared.listing.NamedPath as named_code
use Rattle.cm_wit_projects.specs.Listed.{Body, Declared, NamedPath, of_interface, of_world}

abbrev pub body_view : body_code.Body → Body
body_view (body_is.Interface i) = of_interface (interface_tree i.now)
body_view (body_is.World w) = of_world (world_tree w.now)

abbrev pub declared_view : declared_code.Declared → Declared
declared_view d = record {
  unit = d.unit;
  gates = map placed_gate_tree d.gates.now;
  left = d.left;
  body = body_view d.body;
}

abbrev pub named_path_view : named_code.NamedPath → NamedPath
named_path_view n = record { unit = n.unit; name = n.name.now; path = path_tree n.path.now }
