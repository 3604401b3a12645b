-- The first index of each definition of a component that has several: an alias of a type and an
-- export give what is there another index (Explainer.md, "Index Spaces", "Alias Definitions",
-- "Import and Export Definitions").
use Rattle.std.specs.Prelude.{ℕ, List, [], ◌∷◌, ◌++◌, Option, Some, None, length, slice_get}
use Rattle.std.specs.Prelude.{option_to_list}
use Rattle.cm_binary_model.specs.Trees.{AliasTree, SectionTree, instance_export}
use Rattle.cm_binary_model.specs.Trees.{core_instance_export, outer_type}
use Rattle.cm_binary_model.specs.declared.instances.InstanceExportSort.{InstanceExportSort}
use Rattle.cm_binary_model.specs.declared.instances.InstanceExportSort.TheVariants as member_sort
use Rattle.cm_binary_model.specs.declared.externs.ExternDesc.{ExternDesc}
use Rattle.cm_binary_model.specs.declared.externs.ExternDesc.TheVariants as desc
use Rattle.cm_binary_model.specs.declared.externs.ExportSort.{ExportSort}
use Rattle.cm_binary_model.specs.declared.externs.ExportSort.TheVariants as export_sort
use Rattle.cm_validate_model.specs.Items.{Item, all_items, alias_item, export_item, import_item}
use Rattle.cm_validate_model.specs.Items.{instance_item, type_item}

-- of each type and of each instance, in the order of their indices, the first index; of each import
-- the first index of its type, of each export that of the instance, where it is an instance
pub record Numbers : Type 0 where
  pub types : List ℕ
  pub instances : List ℕ
  pub imports : List (Option ℕ)
  pub exports : List (Option ℕ)

-- before the first definition
abbrev pub no_numbers : Numbers
no_numbers = record { types = []; instances = []; imports = []; exports = [] }

-- a type, an instance, an import and an export more
abbrev pub with_type : Numbers → Option ℕ → Numbers
with_type n first = record n { types = n.types ++ option_to_list first }

abbrev pub with_instance : Numbers → Option ℕ → Numbers
with_instance n first = record n { instances = n.instances ++ option_to_list first }

abbrev pub with_import : Numbers → Option ℕ → Numbers
with_import n first = record n { imports = n.imports ++ first ∷ [] }

abbrev pub with_export : Numbers → Option ℕ → Numbers
with_export n first = record n { exports = n.exports ++ first ∷ [] }

-- a type, and an instance, that was not there before
abbrev pub with_own_type : Numbers → Numbers
with_own_type n = with_type n (Some (length n.types))

abbrev pub with_own_instance : Numbers → Numbers
with_own_instance n = with_instance n (Some (length n.instances))

-- what an instance has under a name: a type of it is not there yet
abbrev pub after_member : Numbers → InstanceExportSort → Numbers
after_member n member_sort.Func = n
after_member n member_sort.Type = with_own_type n

-- an alias of a type of the component: another index of it
abbrev pub after_alias : Numbers → AliasTree → Numbers
after_alias n (instance_export sort instance name) = after_member n sort
after_alias n (core_instance_export sort instance name) = n
after_alias n (outer_type o) = with_type n (slice_get n.types o.index)

-- an import: a function, or an instance of its own of a type that is there
abbrev pub after_import : Numbers → ExternDesc → Numbers
after_import n (desc.Func i) = with_import n None
after_import n (desc.Instance i) = with_own_instance (with_import n (slice_get n.types i))

-- an export: a function, or an instance that is there, which gets another index
abbrev pub after_export : Numbers → ExportSort → ℕ → Numbers
after_export n export_sort.Func i = with_export n None
after_export n export_sort.Instance i =
    with_instance (with_export n (slice_get n.instances i)) (slice_get n.instances i)

-- after a definition, and after definitions
abbrev pub numbers_after : Numbers → Item → Numbers
numbers_after n (type_item d) = with_own_type n
numbers_after n (instance_item es) = with_own_instance n
numbers_after n (alias_item a) = after_alias n a
numbers_after n (import_item i) = after_import n i.desc
numbers_after n (export_item e) = after_export n e.sort e.index
numbers_after n _ = n

abbrev pub numbers_after_all : Numbers → List Item → Numbers
numbers_after_all n [] = n
numbers_after_all n (x ∷ xs) = numbers_after_all (numbers_after n x) xs

-- the numbers of the types and instances of a whole component
abbrev pub numbers_of : List SectionTree → Numbers
numbers_of sections = numbers_after_all no_numbers (all_items sections)
