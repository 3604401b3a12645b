-- What stands in the index spaces of a whole component (Explainer.md, "Index Spaces").
use Rattle.std.specs.Prelude.{◌≡◌, ℕ, true, List, length, map}
use Rattle.std.specs.List.{list_all}
use Rattle.cm_types.specs.Types.{Ty, FuncTy}
use Rattle.cm_types_arena.specs.Places.{funcs_of, types_of}
use Rattle.cm_types_arena.specs.Externs.{extern_of, is_extern_there}
use Rattle.cm_validate_model.specs.Definitions.{CoreFuncDef}
use Rattle.cm_validate_model.specs.Spaces.{Spaces}
use Rattle.cm_validate_core.specs.Entries.{func_of}
use Rattle.cm_validate_items.specs.Resources.{resources_in}
use Rattle.cm_validate_entries.specs.ComponentSpaces.{export_def, is_exported_there}
use Rattle.cm_validate_spaces.specs.Made.{made_def, is_made_there, Tells}
use Rattle.cm_validate_spaces.specs.declared.entries.ComponentEntries.{ComponentEntries}

-- the types of the arena, and those of functions
abbrev pub types_in : ComponentEntries → List Ty
types_in e = types_of e.types

abbrev pub funcs_in : ComponentEntries → List FuncTy
funcs_in e = funcs_of e.types

-- These are the imports, the exports, the resources and the core functions among the spaces of a
-- component: the core functions whatever else tells what canonical definitions made.
pub record AreEntriesOf (e : ComponentEntries) (s : Spaces) : Type 0 where
  pub imports_are : s.imports ≡ map (extern_of (types_in e) (funcs_in e)) e.imports.items
  pub exports_are : s.exports ≡ map (export_def (types_in e) (funcs_in e)) e.exports.items
  pub resources_are : s.resources ≡ resources_in e.resources
  pub core_funcs_are : (made : ℕ → CoreFuncDef)
      → Tells made (map (made_def (funcs_in e)) e.made.items)
      → s.core_funcs ≡ map (func_of made) e.core_funcs.items
  pub imports_there :
      list_all (λ i. is_extern_there (length (types_in e)) (length (funcs_in e)) i.desc)
      e.imports.items ≡ true
  pub exports_there :
      list_all (λ x. is_exported_there (length (types_in e)) (length (funcs_in e)) x.def)
      e.exports.items ≡ true
  pub made_there : list_all (is_made_there (length (funcs_in e))) e.made.items ≡ true
