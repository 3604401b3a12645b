-- What a component exports, as its signature says (Explainer.md, "Import and Export Definitions").
use Rattle.std.specs.Prelude.{map}
use Rattle.cm_types.specs.Signatures.{ExternTy, NamedExtern, SignatureTy, func, instance}
use Rattle.cm_validate_model.specs.Definitions.{ExportDef, NamedExport, exported_func}
use Rattle.cm_validate_model.specs.Definitions.{exported_instance}
use Rattle.cm_validate_model.specs.Definitions.{func_type_of}
use Rattle.cm_validate_model.specs.Spaces.{Spaces, items_of_members}

-- a function by its type, an instance by the items that its members are
abbrev pub exported_type : ExportDef → ExternTy
exported_type (exported_func f) = func (func_type_of f)
exported_type (exported_instance ms) = instance (items_of_members ms)

abbrev pub exported_extern : NamedExport → NamedExtern
exported_extern e = record { name = e.name; desc = exported_type e.def }

-- what a component with these index spaces imports and exports
abbrev pub signature_in : Spaces → SignatureTy
signature_in s = record { imports = s.imports; exports = map exported_extern s.exports }
