-- The lifts that a component exports, in order (Explainer.md, "Canonical Definitions", "Import and
-- Export Definitions"). A lift that no export is cannot be called, and is none of them.
use Rattle.std.specs.Prelude.{ℕ, ◌+◌, Bool, List, [], ◌∷◌, ◌++◌}
use Rattle.std.specs.Prelude.{Option, Some, None, option_to_list}
use Rattle.std.specs.List.{find, flat_map}
use Rattle.std.specs.Option.{option_and_then}
use Rattle.cm_types.specs.Types.{FuncTy}
use Rattle.cm_binary_model.specs.declared.canons.CanonOption.{CanonOption}
use Rattle.cm_validate_model.specs.Definitions.{FuncDef, lifted, imported, NamedMember}
use Rattle.cm_validate_model.specs.Definitions.{ExportDef, exported_func, exported_instance}
use Rattle.cm_validate_model.specs.Definitions.{NamedExport}
use Rattle.cm_validate_model.specs.Spaces.{Spaces, func_of_member}
use Rattle.cm_validate_functions.specs.Options.{first_in, is_number, post_return_in}
use Rattle.cm_validate_functions.specs.Options.{realloc_in}

-- a lift: the number of the export, and the name that it has in an exported instance; the core
-- function, the type to which it is lifted, and the options
pub record LiftDef : Type 0 where
  pub export : ℕ
  pub item : Option (List ℕ)
  pub func : ℕ
  pub ty : FuncTy
  pub options : List CanonOption

-- the lift that a function is, if it is one
abbrev pub lift_in : ℕ → Option (List ℕ) → FuncDef → Option LiftDef
lift_in export item (lifted f ty options) =
    Some (record { export = export; item = item; func = f; ty = ty; options = options })
lift_in export item (imported import number ty) = None

-- those of the members of an instance, and of an export
abbrev pub lift_of_member : ℕ → NamedMember → List LiftDef
lift_of_member export m =
    option_to_list
    (option_and_then (lift_in export (Some m.name)) (func_of_member m.def))

abbrev pub lifts_of_members : ℕ → List NamedMember → List LiftDef
lifts_of_members export ms = flat_map (lift_of_member export) ms

abbrev pub lifts_of_export : ℕ → ExportDef → List LiftDef
lifts_of_export export (exported_func f) = option_to_list (lift_in export None f)
lifts_of_export export (exported_instance ms) = lifts_of_members export ms

-- those of exports, which are counted from `next` on
abbrev pub lifts_from : ℕ → List NamedExport → List LiftDef
lifts_from next [] = []
lifts_from next (e ∷ es) = lifts_of_export next e.def ++ lifts_from (next + 1) es

abbrev pub lifts_of : Spaces → List LiftDef
lifts_of s = lifts_from 0 s.exports

-- ---- what a lift uses

-- for what a lift uses a core function: to lift it, to be called once its result was read, and to
-- allocate
pub data Purpose : Type 0 where
  lifting : Purpose
  post_return : Purpose
  allocating : Purpose

-- the core function that it uses so, if there is one
abbrev pub used_by : Purpose → LiftDef → Option ℕ
used_by lifting l = Some l.func
used_by post_return l = first_in post_return_in l.options
used_by allocating l = first_in realloc_in l.options

abbrev pub uses : Purpose → ℕ → LiftDef → Bool
uses p f l = is_number f (used_by p l)

-- the first lift that uses a core function so
abbrev pub first_use : Purpose → Spaces → ℕ → Option LiftDef
first_use p s f = find (uses p f) (lifts_of s)
