-- The functions that a component exports (Explainer.md, "Import and Export Definitions").
use Rattle.std.specs.Prelude.{ℕ, List, Option, Some, None, slice_get}
use Rattle.std.specs.Option.{option_and_then}
use Rattle.cm_validate_model.specs.Definitions.{FuncDef, ExportDef, exported_func}
use Rattle.cm_validate_model.specs.Definitions.{exported_instance}
use Rattle.cm_validate_model.specs.Spaces.{Spaces, func_exported, func_of_member, member_named}

-- the one that an export is, or that an exported instance has under a name
abbrev pub func_under : Option (List ℕ) → ExportDef → Option FuncDef
func_under None e = func_exported e
func_under (Some name) (exported_func f) = None
func_under (Some name) (exported_instance ms) =
    option_and_then func_of_member (member_named ms name)

abbrev pub exported_func_of : Spaces → ℕ → Option (List ℕ) → Option FuncDef
exported_func_of s export name =
    option_and_then (λ e. func_under name e.def) (slice_get s.exports export)
