-- The index spaces of a component, all of them, and what calls answer for its items (Explainer.md,
-- "Index Spaces").
use Rattle.std.specs.Prelude.{◌≡◌, ℕ, true, List, length, map, Option}
use Rattle.std.specs.List.{list_all}
use Rattle.cm_types.specs.Types.{Ty, FuncTy}
use Rattle.cm_layout_placed.specs.Placed.{AreOfFirst, layouts_in}
use Rattle.cm_validate_model.specs.declared.fault.ValidReason.{ValidReason}
use Rattle.cm_validate_model.specs.Definitions.{CoreFuncDef}
use Rattle.cm_validate_model.specs.Items.{Item}
use Rattle.cm_validate_model.specs.Reasons.{least}
use Rattle.cm_validate_model.specs.Rules.{broken}
use Rattle.cm_validate_model.specs.Spaces.{Spaces}
use Rattle.cm_validate_core.specs.CoreSpaces.{IsCoreOf, made_count}
use Rattle.cm_validate_types.specs.SettledScopes.{AreSettled}
use Rattle.cm_validate_types.specs.TypeScopes.{arena_funcs, arena_types, own_types}
use Rattle.cm_validate_entries.specs.ComponentSpaces.{IsComponentOf, after_answer}
use Rattle.cm_validate_spaces.specs.Made.{made_def, is_made_there, Tells}
use Rattle.cm_validate_spaces.specs.declared.spaces.IndexSpaces.{IndexSpaces}

-- the types of the arena, and those of functions
abbrev pub types_in : IndexSpaces → List Ty
types_in w = arena_types w.types

abbrev pub funcs_in : IndexSpaces → List FuncTy
funcs_in w = arena_funcs w.types

-- the core functions that canonical definitions made, by their numbers
abbrev pub defs_made : IndexSpaces → List CoreFuncDef
defs_made w = map (made_def (funcs_in w)) w.made.items

-- The index spaces are these: the core ones, whatever else tells what canonical definitions made;
-- functions, instances, resources, imports and exports; and types, where what a move brought into
-- the type of an instance names no resource of that instance. The layouts are those of the arena's
-- first types.
pub record IsAt (w : IndexSpaces) (s : Spaces) : Type 0 where
  pub core_is : (made : ℕ → CoreFuncDef) → Tells made (defs_made w) → IsCoreOf made w.core s
  pub component_is : IsComponentOf (types_in w) (funcs_in w) w.component s
  pub types_are : s.types ≡ own_types w.types
  pub settled : AreSettled w.types
  pub counted : made_count w.core ≡ length w.made.items
  pub made_there : list_all (is_made_there (length (funcs_in w))) w.made.items ≡ true
  pub laid : AreOfFirst (layouts_in w.layouts) (types_in w)

-- the index spaces are those of some component, after some of its items
abbrev pub Stands : IndexSpaces → Type 0
Stands w = (s : Spaces) × IsAt w s

-- A call answers for an item: with the least reason to refuse it, or else after it. Where it
-- violates a rule, the spaces stand for the same as before.
pub record Answers (x : Item) (old : IndexSpaces) (r : Option ValidReason) (new : IndexSpaces)
    : Type 0 where
  pub fault : (s : Spaces) → IsAt old s → r ≡ least (broken s x)
  pub after : (s : Spaces) → IsAt old s → IsAt new (after_answer r s x)
