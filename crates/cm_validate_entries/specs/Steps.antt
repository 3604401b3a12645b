-- What calls add to the entries, and what they leave as it is.
use Rattle.std.specs.Prelude.{◌≡◌, ℕ, List, [], ◌∷◌, ◌++◌}
use Rattle.cm_types_arena.specs.declared.externs.Extern.{Extern}
use Rattle.cm_validate_core.specs.NameSets.{KnowsMore}
use Rattle.cm_validate_entries.specs.declared.entries.FuncEntry.{FuncEntry}
use Rattle.cm_validate_entries.specs.declared.entries.InstanceEntry.{InstanceEntry}
use Rattle.cm_validate_entries.specs.declared.spaces.ComponentSpaces.{ComponentSpaces}
use Rattle.cm_validate_entries.specs.declared.spaces.ExportEntry.{ExportEntry}

-- a function
pub record PushesFunc (f : FuncEntry) (old new : ComponentSpaces) : Type 0 where
  pub pushed : new.funcs.items ≡ old.funcs.items ++ f ∷ []
  pub instances : new.instances ≡ old.instances
  pub resources : new.resources ≡ old.resources
  pub imports : new.imports ≡ old.imports
  pub import_names : new.import_names ≡ old.import_names
  pub exports : new.exports ≡ old.exports
  pub export_names : new.export_names ≡ old.export_names

-- an instance
pub record PushesInstance (i : InstanceEntry) (old new : ComponentSpaces) : Type 0 where
  pub pushed : new.instances.items ≡ old.instances.items ++ i ∷ []
  pub funcs : new.funcs ≡ old.funcs
  pub resources : new.resources ≡ old.resources
  pub imports : new.imports ≡ old.imports
  pub import_names : new.import_names ≡ old.import_names
  pub exports : new.exports ≡ old.exports
  pub export_names : new.export_names ≡ old.export_names

-- an import under a name
pub record AddsImport (e : Extern) (name : List ℕ) (old new : ComponentSpaces) : Type 0 where
  pub added : new.imports.items ≡ old.imports.items ++ e ∷ []
  pub named : KnowsMore old.import_names new.import_names (name ∷ [])
  pub funcs : new.funcs ≡ old.funcs
  pub instances : new.instances ≡ old.instances
  pub resources : new.resources ≡ old.resources
  pub exports : new.exports ≡ old.exports
  pub export_names : new.export_names ≡ old.export_names

-- an export under a name
pub record AddsExport (e : ExportEntry) (name : List ℕ) (old new : ComponentSpaces) : Type 0 where
  pub added : new.exports.items ≡ old.exports.items ++ e ∷ []
  pub named : KnowsMore old.export_names new.export_names (name ∷ [])
  pub funcs : new.funcs ≡ old.funcs
  pub instances : new.instances ≡ old.instances
  pub resources : new.resources ≡ old.resources
  pub imports : new.imports ≡ old.imports
  pub import_names : new.import_names ≡ old.import_names
