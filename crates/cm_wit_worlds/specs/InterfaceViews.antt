-- The interfaces and worlds that the code's are.
use Rattle.std.specs.Prelude.{List, map}
use Rattle.std.specs.Borrow.{Bor}
use Rattle.cm_wit_reading.specs.declared.file.WitFile.{WitFile}
use Rattle.cm_wit_reading.specs.Trees.{File}
use Rattle.cm_wit_reading.specs.Views.{file_tree, interface_tree, world_tree}
use Rattle.cm_wit_worlds.specs.declared.placed.PlacedInterface as code_interface
use Rattle.cm_wit_worlds.specs.declared.placed.PlacedWorld as code_world
use Rattle.cm_wit_worlds.specs.Interfaces.{PlacedInterface, PlacedWorld}

abbrev pub placed_interface : code_interface.PlacedInterface → PlacedInterface
placed_interface x = record {
  place = x.place;
  file = file_tree x.file.now;
  interface = interface_tree x.interface.now;
}

abbrev pub placed_world : code_world.PlacedWorld → PlacedWorld
placed_world x = record {
  place = x.place;
  file = file_tree x.file.now;
  world = world_tree x.world.now;
}

-- files behind references
abbrev pub files_of : List (Bor WitFile) → List File
files_of fs = map (λ f. file_tree f.now) fs
