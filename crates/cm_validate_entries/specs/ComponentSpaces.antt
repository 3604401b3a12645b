-- The index spaces of functions and instances, the resources, the imports and the exports, as those
-- of a whole component.
use Rattle.std.specs.Prelude.{◌≡◌, ℕ, Bool, true, List, map, length, Option, Some, None}
use Rattle.std.specs.Prelude.{option_to_list, IfSome}
use Rattle.std.specs.List.{AllByRecursion, list_all}
use Rattle.std.specs.Option.{option_map}
use Rattle.cm_types.specs.Types.{Ty, FuncTy}
use Rattle.cm_binary_model.specs.Trees.{AliasTree}
use Rattle.cm_types_arena.specs.Externs.{extern_of, is_extern_there}
use Rattle.cm_validate_model.specs.declared.fault.ValidReason.{ValidReason}
use Rattle.cm_validate_model.specs.Definitions.{ExportDef, exported_func, exported_instance}
use Rattle.cm_validate_model.specs.Definitions.{NamedExport}
use Rattle.cm_validate_model.specs.Items.{Item, alias_item}
use Rattle.cm_validate_model.specs.Reasons.{least}
use Rattle.cm_validate_model.specs.Rules.{broken}
use Rattle.cm_validate_model.specs.Spaces.{Spaces, empty_spaces, after_item, after_items, new_types}
use Rattle.cm_validate_core.specs.NameSets.{Knows}
use Rattle.cm_validate_types.specs.Entries.{def_of, is_entry_there}
use Rattle.cm_validate_types.specs.Settled.{IsEntrySettled}
use Rattle.cm_validate_types.specs.declared.entries.TypeEntry.{TypeEntry}
use Rattle.cm_validate_entries.specs.Entries.{func_def, members_of, is_func_there}
use Rattle.cm_validate_entries.specs.Entries.{are_members_there}
use Rattle.cm_validate_items.specs.Resources.{resources_in}
use Rattle.cm_validate_entries.specs.declared.aliases.Aliased.{Aliased}
use Rattle.cm_validate_entries.specs.declared.aliases.Aliased.TheVariants as aliased
use Rattle.cm_validate_entries.specs.declared.spaces.ComponentSpaces.{ComponentSpaces}
use Rattle.cm_validate_entries.specs.declared.spaces.ExportEntry.{ExportEntry}
use Rattle.cm_validate_entries.specs.declared.spaces.ExportedEntry.{ExportedEntry}
use Rattle.cm_validate_entries.specs.declared.spaces.ExportedEntry.TheVariants as export

-- ---- exports

abbrev pub exported_def : List Ty → List FuncTy → ExportedEntry → ExportDef
exported_def types funcs (export.Func f) = exported_func (func_def funcs f)
exported_def types funcs (export.Instance i) = exported_instance (members_of types funcs i)

abbrev pub export_def : List Ty → List FuncTy → ExportEntry → NamedExport
export_def types funcs e = record { name = e.name.now; def = exported_def types funcs e.def }

-- the places in it are among so many types, and so many types of functions
abbrev pub is_exported_there : ℕ → ℕ → ExportedEntry → Bool
is_exported_there types funcs (export.Func f) = is_func_there funcs f
is_exported_there types funcs (export.Instance i) = are_members_there types funcs i

-- ---- what they are

-- some items lead to these spaces
abbrev pub IsReached : Spaces → Type 0
IsReached s = (front : List Item) × (s ≡ after_items empty_spaces front)

-- These are the index spaces of functions and instances among the spaces of a component, with the
-- types of an arena; and its resources, imports and exports.
pub record IsComponentOf (types : List Ty) (funcs : List FuncTy) (c : ComponentSpaces) (s : Spaces)
    : Type 0 where
  pub reached : IsReached s
  pub funcs_are : s.funcs ≡ map (func_def funcs) c.funcs.items
  pub instances_are : s.instances ≡ map (members_of types funcs) c.instances.items
  pub resources_are : s.resources ≡ resources_in c.resources
  pub imports_are : s.imports ≡ map (extern_of types funcs) c.imports.items
  pub import_names : Knows c.import_names (map (λ i. i.name) s.imports)
  pub exports_are : s.exports ≡ map (export_def types funcs) c.exports.items
  pub export_names : Knows c.export_names (map (λ e. e.name) s.exports)
  pub funcs_there : list_all (is_func_there (length funcs)) c.funcs.items ≡ true
  pub instances_there :
      list_all (are_members_there (length types) (length funcs)) c.instances.items ≡ true
  pub imports_there :
      list_all (λ e. is_extern_there (length types) (length funcs) e.desc) c.imports.items ≡ true
  pub exports_there :
      list_all (λ e. is_exported_there (length types) (length funcs) e.def) c.exports.items ≡ true

-- these are the types of a component
pub record AreTypesOf (types : List Ty) (funcs : List FuncTy) (es : List TypeEntry) (s : Spaces)
    : Type 0 where
  pub types_are : s.types ≡ map (def_of types funcs) es
  pub types_there : list_all (is_entry_there (length types) (length funcs)) es ≡ true
  pub settled : AllByRecursion (IsEntrySettled types funcs) es

-- the entries stand for the same as before
abbrev pub Stays : ComponentSpaces → ComponentSpaces → Type 0
Stays old new =
    (types : List Ty) (funcs : List FuncTy) (s : Spaces) → IsComponentOf types funcs old s
    → IsComponentOf types funcs new s

-- what stands for the spaces before an item stands for those after it
abbrev pub StaysAfter : Item → Type 0
StaysAfter x =
    (types : List Ty) (funcs : List FuncTy) (c : ComponentSpaces) (s : Spaces)
    → IsComponentOf types funcs c s → IsComponentOf types funcs c (after_item s x)

-- ---- what calls answer

-- the spaces after an item that violates no rule; where it violates a rule, those before it
abbrev pub after_answer : Option ValidReason → Spaces → Item → Spaces
after_answer None s x = after_item s x
after_answer (Some r) s x = s

-- A call answers for an item, after types: with the least reason to refuse it, or else after it.
pub record Answers (es : List TypeEntry) (x : Item) (old : ComponentSpaces)
    (r : Option ValidReason) (new : ComponentSpaces) : Type 0 where
  pub fault : (types : List Ty) (funcs : List FuncTy) (s : Spaces)
      → IsComponentOf types funcs old s → AreTypesOf types funcs es s → r ≡ least (broken s x)
  pub after : (types : List Ty) (funcs : List FuncTy) (s : Spaces)
      → IsComponentOf types funcs old s → AreTypesOf types funcs es s
      → IsComponentOf types funcs new (after_answer r s x)

-- A call answers for an item that names no types: with the least reason to refuse it, or else after
-- it.
pub record AnswersAlone (x : Item) (old : ComponentSpaces) (r : Option ValidReason)
    (new : ComponentSpaces) : Type 0 where
  pub fault : (types : List Ty) (funcs : List FuncTy) (s : Spaces)
      → IsComponentOf types funcs old s → r ≡ least (broken s x)
  pub after : (types : List Ty) (funcs : List FuncTy) (s : Spaces)
      → IsComponentOf types funcs old s → IsComponentOf types funcs new (after_answer r s x)

-- the rules that an alias violates, and the type that it adds
abbrev pub alias_fault : Aliased → Option ValidReason
alias_fault (aliased.Broken r) = Some r
alias_fault aliased.Func = None
alias_fault (aliased.Type t) = None

abbrev pub alias_type : Aliased → Option TypeEntry
alias_type (aliased.Broken r) = None
alias_type aliased.Func = None
alias_type (aliased.Type t) = Some t

-- A call answers for an alias: with the least reason to refuse it, or else after it; the type that
-- it names, if it names one, is for the caller to add.
pub record AnswersAlias (a : AliasTree) (old : ComponentSpaces) (r : Aliased)
    (new : ComponentSpaces) : Type 0 where
  pub fault : (types : List Ty) (funcs : List FuncTy) (s : Spaces)
      → IsComponentOf types funcs old s → alias_fault r ≡ least (broken s (alias_item a))
  pub after : (types : List Ty) (funcs : List FuncTy) (s : Spaces)
      → IsComponentOf types funcs old s
      → IsComponentOf types funcs new (after_answer (alias_fault r) s (alias_item a))
  pub added : (types : List Ty) (funcs : List FuncTy) (s : Spaces)
      → IsComponentOf types funcs old s → alias_fault r ≡ None
      → new_types s (alias_item a)
      ≡ option_to_list (option_map (def_of types funcs) (alias_type r))
  pub there : (types : List Ty) (funcs : List FuncTy) (s : Spaces)
      → IsComponentOf types funcs old s
      → IfSome (alias_type r) (λ t. is_entry_there (length types) (length funcs) t ≡ true)
  pub settled : IfSome (alias_type r)
      (λ t. (types : List Ty) (funcs : List FuncTy) → IsEntrySettled types funcs t)
