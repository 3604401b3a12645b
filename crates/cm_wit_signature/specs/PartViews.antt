-- What the imports and exports of a world are made of.
use Rattle.std.specs.Prelude.{Bool, List, length, map}
use Rattle.cm_types.specs.Signatures.{NamedExtern}
use Rattle.cm_types.specs.Types.{Ty}
use Rattle.cm_types_arena.specs.Places.{funcs_of, types_of}
use Rattle.cm_types_arena.specs.declared.types.Types.{Types}
use Rattle.cm_types_arena.specs.Shared.{are_shared_externs_there, shared_extern_of}
use Rattle.cm_types_arena.specs.declared.names.Front.{Front}
use Rattle.cm_types_arena.specs.declared.shared.SharedExtern.{SharedExtern}
use Rattle.cm_names.specs.Listed.{listed}
use Rattle.cm_wit_reading.specs.SignatureViews.{func_tree}
use Rattle.cm_wit_worlds.specs.Interfaces.{PlacedInterface, PlacedWorld}
use Rattle.cm_wit_reading.specs.Trees.{File}
use Rattle.cm_wit_worlds.specs.InterfaceViews.{files_of, placed_interface, placed_world}
use Rattle.cm_wit_meanings.specs.Places.{table_in}
use Rattle.cm_wit_meanings.specs.Scopes.{scope_at}
use Rattle.cm_wit_signature.specs.Signatures.{NamedFunc, Scopes}
use Rattle.cm_wit_signature.specs.PackageFronts.{package_fronts}
use Rattle.cm_wit_signature.specs.declared.parts.Parts.{Parts}
use Rattle.cm_wit_signature.specs.declared.parts.OwnFunc.{OwnFunc}

abbrev pub own_func_view : OwnFunc → NamedFunc
own_func_view f = (f.name.now, func_tree f.func.now)

-- what the names of each list stand for, among the types of an arena
abbrev pub scopes_in : List Ty → Parts → Scopes
scopes_in types p l = scope_at (listed p.names.now) (table_in types p.table.now) l

-- the packages, their interfaces, and the world
abbrev pub files_in : Parts → List File
files_in p = files_of p.sources.files.now

abbrev pub interfaces_in : Parts → List PlacedInterface
interfaces_in p = map placed_interface p.sources.interfaces.now

abbrev pub world_in : Parts → PlacedWorld
world_in p = placed_world p.sources.world.now

-- the fronts of the names of what the world imports or exports
abbrev pub fronts_in : Parts → List Front
fronts_in p = package_fronts (files_in p)

-- what an import or an export is, and several, among the types of an arena
abbrev pub extern_made : Parts → Types → SharedExtern → NamedExtern
extern_made p t e = shared_extern_of (types_of t) (funcs_of t) (fronts_in p) e

abbrev pub externs_made : Parts → Types → List SharedExtern → List NamedExtern
externs_made p t es = map (extern_made p t) es

-- their places are in the arena
abbrev pub are_made_there : Types → List SharedExtern → Bool
are_made_there t es = are_shared_externs_there (length (types_of t)) (length (funcs_of t)) es
