-- Component files as trees, without where they lie in memory (Binary.md). Names and texts are their
-- bytes; indices count from 0. A type that holds no text or list is its own tree.
use Rattle.std.specs.Prelude.{ℕ, List, map}
use Rattle.std.specs.String.{string_bytes}
use Rattle.cm_types.specs.DefTypes.{DefTypeTree, def_type_tree}
use Rattle.cm_binary_model.specs.declared.section.Section.{Section}
use Rattle.cm_binary_model.specs.declared.section.Section.TheVariants as section
use Rattle.cm_binary_model.specs.declared.instances.CoreInstance.{CoreInstance}
use Rattle.cm_binary_model.specs.declared.instances.CoreInstance.TheVariants as core_instance
use Rattle.cm_binary_model.specs.declared.instances.CoreInstantiationArg.{CoreInstantiationArg}
use Rattle.cm_binary_model.specs.declared.instances.CoreInlineExport.{CoreInlineExport}
use Rattle.cm_binary_model.specs.declared.instances.CoreSort.{CoreSort}
use Rattle.cm_binary_model.specs.declared.instances.Instance.{Instance}
use Rattle.cm_binary_model.specs.declared.instances.InlineExport.{InlineExport}
use Rattle.cm_binary_model.specs.declared.instances.InstanceExportSort.{InstanceExportSort}
use Rattle.cm_binary_model.specs.declared.aliases.Alias.{Alias}
use Rattle.cm_binary_model.specs.declared.aliases.Alias.TheVariants as alias
use Rattle.cm_types.specs.declared.def_types.OuterType.{OuterType}
use Rattle.cm_binary_model.specs.declared.canons.Canon.{Canon}
use Rattle.cm_binary_model.specs.declared.canons.Canon.TheVariants as canon
use Rattle.cm_binary_model.specs.declared.canons.CanonOption.{CanonOption}
use Rattle.cm_binary_model.specs.declared.externs.Import.{Import}
use Rattle.cm_binary_model.specs.declared.externs.Export.{Export}

-- A core instance given to a module under a name (`core:instantiatearg`).
pub record ArgTree : Type 0 where
  pub name : List ℕ
  pub instance : ℕ

-- A core definition under a name (`core:inlineexport`).
pub record CoreExportTree : Type 0 where
  pub name : List ℕ
  pub sort : CoreSort
  pub index : ℕ

-- A core module with what it is given, or core definitions under names (`core:instance`).
pub data CoreInstanceTree : Type 0 where
  instantiate : ℕ → List ArgTree → CoreInstanceTree
  core_exports : List CoreExportTree → CoreInstanceTree

-- What an instance, a core instance or a component around has: the sort, the instance, the name; or
-- how far outwards, and the type (`alias`).
pub data AliasTree : Type 0 where
  instance_export : InstanceExportSort → ℕ → List ℕ → AliasTree
  core_instance_export : CoreSort → ℕ → List ℕ → AliasTree
  outer_type : OuterType → AliasTree

-- A canonical definition: of a lift the core function, the options, the type; of a lower the
-- function, the options; of the others the resource type (`canon`).
pub data CanonTree : Type 0 where
  lift : ℕ → List CanonOption → ℕ → CanonTree
  lower : ℕ → List CanonOption → CanonTree
  resource_new : ℕ → CanonTree
  resource_drop : ℕ → CanonTree
  resource_rep : ℕ → CanonTree

-- A section: its items; of a custom section the name and the bytes, of a core module the bytes. An
-- instance is what it exports.
pub data SectionTree : Type 0 where
  custom : List ℕ → List ℕ → SectionTree
  core_module : List ℕ → SectionTree
  core_instances : List CoreInstanceTree → SectionTree
  instances : List (List InlineExport) → SectionTree
  aliases : List AliasTree → SectionTree
  types : List DefTypeTree → SectionTree
  canons : List CanonTree → SectionTree
  imports : List Import → SectionTree
  exports : List Export → SectionTree

-- ---- what the code's types say, as trees

abbrev pub arg_tree : CoreInstantiationArg → ArgTree
arg_tree a = record { name = string_bytes a.name; instance = a.instance }

abbrev pub core_export_tree : CoreInlineExport → CoreExportTree
core_export_tree e = record { name = string_bytes e.name; sort = e.sort; index = e.index }

abbrev pub core_instance_tree : CoreInstance → CoreInstanceTree
core_instance_tree (core_instance.Instantiate module_ args) =
    instantiate module_ (map arg_tree args.items)
core_instance_tree (core_instance.Exports items) = core_exports (map core_export_tree items.items)

abbrev pub instance_tree : Instance → List InlineExport
instance_tree i = i.exports.items

abbrev pub alias_tree : Alias → AliasTree
alias_tree (alias.InstanceExport sort instance name) = instance_export sort instance name
alias_tree (alias.CoreInstanceExport sort instance name) =
    core_instance_export sort instance (string_bytes name)
alias_tree (alias.OuterType outer) = outer_type outer

abbrev pub canon_tree : Canon → CanonTree
canon_tree (canon.Lift core_func options ty) = lift core_func options.items ty
canon_tree (canon.Lower func options) = lower func options.items
canon_tree (canon.ResourceNew resource) = resource_new resource
canon_tree (canon.ResourceDrop resource) = resource_drop resource
canon_tree (canon.ResourceRep resource) = resource_rep resource

abbrev pub section_tree : Section → SectionTree
section_tree (section.Custom c) = custom (string_bytes c.name) c.bytes.items
section_tree (section.CoreModule bytes) = core_module bytes.items
section_tree (section.CoreInstances items) = core_instances (map core_instance_tree items.items)
section_tree (section.Instances items) = instances (map instance_tree items.items)
section_tree (section.Aliases items) = aliases (map alias_tree items.items)
section_tree (section.Types items) = types (map def_type_tree items.items)
section_tree (section.Canons items) = canons (map canon_tree items.items)
section_tree (section.Imports items) = imports items.items
section_tree (section.Exports items) = exports items.items
