-- The core functions that canonical definitions made (Explainer.md, "Canonical Definitions").
use Rattle.std.specs.Prelude.{◌≡◌, ℕ, Bool, true, false, List, Some, slice_get}
use Rattle.cm_types.specs.Types.{FuncTy}
use Rattle.cm_types_arena.specs.Placed.{placed_func, is_there}
use Rattle.cm_validate_model.specs.Definitions.{CoreFuncDef, guest, lowered, making, dropping}
use Rattle.cm_validate_model.specs.Definitions.{reading}
use Rattle.cm_validate_model.specs.Options.{is_guest}
use Rattle.cm_validate_spaces.specs.declared.made.MadeFunc.{MadeFunc}
use Rattle.cm_validate_spaces.specs.declared.made.MadeFunc.TheVariants as made
use Rattle.cm_validate_spaces.specs.declared.made.CoreFuncEntry.{CoreFuncEntry}
use Rattle.cm_validate_spaces.specs.declared.made.CoreFuncEntry.TheVariants as core
use Rattle.cm_validate_core.specs.Entries.{export_of}

-- what each of them is, among the types of functions of an arena
abbrev pub made_def : List FuncTy → MadeFunc → CoreFuncDef
made_def funcs (made.Lowered import number ty options) =
    lowered import number (placed_func funcs ty) options.now
made_def funcs (made.Making n) = making n
made_def funcs (made.Dropping n) = dropping n
made_def funcs (made.Reading n) = reading n

-- its type is one of so many
abbrev pub is_made_there : ℕ → MadeFunc → Bool
is_made_there funcs (made.Lowered import number ty options) = is_there funcs ty
is_made_there funcs _ = true

-- what a core function is, and whether its type is one of so many
abbrev pub core_func_def : List FuncTy → CoreFuncEntry → CoreFuncDef
core_func_def funcs (core.Guest e) = guest (export_of e)
core_func_def funcs (core.Made m) = made_def funcs m

abbrev pub is_core_func_there : ℕ → CoreFuncEntry → Bool
is_core_func_there funcs (core.Guest e) = true
is_core_func_there funcs (core.Made m) = is_made_there funcs m

-- `made` tells each of these by its number; whatever else it tells is no guest's either
pub record Tells (made : ℕ → CoreFuncDef) (defs : List CoreFuncDef) : Type 0 where
  pub told : (n : ℕ) (d : CoreFuncDef) → slice_get defs n ≡ Some d → made n ≡ d
  pub no_guests : (n : ℕ) → is_guest (made n) ≡ false
