-- The types that a scope has.
use Rattle.std.specs.Prelude.{◌≡◌, ◌++◌, List, map}
use Rattle.cm_types.specs.Types.{Ty, FuncTy}
use Rattle.cm_types_arena.specs.Places.{types_of, funcs_of}
use Rattle.cm_validate_model.specs.Definitions.{TypeDef}
use Rattle.cm_validate_types.specs.declared.entries.TypeEntry.{TypeEntry}
use Rattle.cm_validate_types.specs.declared.scope.TypeScope.{TypeScope}
use Rattle.cm_validate_types.specs.Entries.{def_of, unmoved_def_of}

-- the types of the scope's arena, and those of functions
abbrev pub arena_types : TypeScope → List Ty
arena_types s = types_of s.types

abbrev pub arena_funcs : TypeScope → List FuncTy
arena_funcs s = funcs_of s.types

-- the entries of its own, and those around
abbrev pub entries_of : TypeScope → List TypeEntry
entries_of s = s.own.entries.items

abbrev pub entries_around : TypeScope → List TypeEntry
entries_around s = s.around.entries.items

-- the types of its own, and those around
abbrev pub own_types : TypeScope → List TypeDef
own_types s = map (def_of (arena_types s) (arena_funcs s)) (entries_of s)

abbrev pub types_around : TypeScope → List TypeDef
types_around s = map (def_of (arena_types s) (arena_funcs s)) (entries_around s)

-- the types of its own, each value type the one at its place, with no resource moved
abbrev pub unmoved_types : TypeScope → List TypeDef
unmoved_types s = map (unmoved_def_of (arena_types s) (arena_funcs s)) (entries_of s)

-- a list has what it had, and maybe more behind it
abbrev pub Extends : {A : Type 0} → List A → List A → Type 0
Extends {A} old new = (more : List A) × (new ≡ old ++ more)

-- each place of the arena stands for what it stood for
abbrev pub HasGrown : TypeScope → TypeScope → Type 0
HasGrown old new =
    Extends (arena_types old) (arena_types new) × Extends (arena_funcs old) (arena_funcs new)
