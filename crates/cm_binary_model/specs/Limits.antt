-- The limits of a component file. Those on types and bytes are this project's own; a core module
-- begins with its preamble (core specification, "Modules").
use Rattle.std.specs.Prelude.{ℕ, ◌+◌, List, length, Bool, true, Option, Some, None, Result, Ok}
use Rattle.std.specs.Prelude.{Err, nat_eq, nat_lt, if◌then◌else◌}
use Rattle.std.specs.List.{sum_by, list_all, starts_with}
use Rattle.cm_types.specs.DefTypes.{DeclarationTree, type_decl, outer_type_decl, export_decl}
use Rattle.cm_types.specs.DefTypes.{DefTypeTree, value_def, func_def, resource_def, instance_def}
use Rattle.cm_binary_model.specs.Trees as trees
use Rattle.cm_binary_model.specs.Trees.{SectionTree}
use Rattle.cm_binary_model.specs.Spelling.{spelling}
use Rattle.cm_binary_model.specs.declared.limits.TheConstants.{MAX_TYPES, MAX_FILE_BYTES}
use Rattle.cm_binary_model.specs.declared.limits.TheConstants.{MODULE_PREAMBLE}
use Rattle.cm_binary_model.specs.declared.limits.LimitFault.{LimitFault}
use Rattle.cm_binary_model.specs.declared.limits.LimitFault.TheVariants.{TooMany, TooLong}
use Rattle.cm_binary_model.specs.declared.limits.LimitFault.TheVariants.{NotAModule}

-- How many types a declaration takes of those that a file may have: an alias or an export takes
-- none.
abbrev pub types_in_declaration : DeclarationTree → ℕ
types_in_declaration (type_decl t) = 1
types_in_declaration (outer_type_decl outer) = 0
types_in_declaration (export_decl e) = 0

-- How many types a type definition takes: itself, and those that the type of an instance declares.
abbrev pub types_in_def : DefTypeTree → ℕ
types_in_def (value_def v) = 1
types_in_def (func_def f) = 1
types_in_def (resource_def destructor) = 1
types_in_def (instance_def declarations) = 1 + sum_by types_in_declaration declarations

-- How many types a section takes.
abbrev pub types_in : SectionTree → ℕ
types_in (trees.types ts) = sum_by types_in_def ts
types_in s = 0

-- How many items stand in a section: a custom section has none, a core module is one.
abbrev pub items_in : SectionTree → ℕ
items_in (trees.custom name bytes) = 0
items_in (trees.core_module bytes) = 1
items_in (trees.core_instances items) = length items
items_in (trees.instances items) = length items
items_in (trees.aliases items) = length items
items_in (trees.types items) = length items
items_in (trees.canons items) = length items
items_in (trees.imports items) = length items
items_in (trees.exports items) = length items

-- A core module begins with its preamble.
abbrev pub has_preamble : SectionTree → Bool
has_preamble (trees.core_module bytes) = starts_with nat_eq bytes MODULE_PREAMBLE
has_preamble s = true

-- The first limit that is not kept: types, then the bytes of the shortest file, then core modules.
abbrev pub limit_fault : List SectionTree → Option LimitFault
limit_fault c =
    if nat_lt MAX_TYPES (sum_by types_in c) then Some TooMany
    else if nat_lt MAX_FILE_BYTES (length (spelling c)) then Some TooLong
    else if list_all has_preamble c then None
    else Some NotAModule

-- The sections where there is no fault.
abbrev pub component_or_fault : List SectionTree → Option LimitFault
    → Result (List SectionTree) LimitFault
component_or_fault c None = Ok c
component_or_fault c (Some fault) = Err fault

-- The component of these sections, or the first limit that they do not keep.
abbrev pub within_limits : List SectionTree → Result (List SectionTree) LimitFault
within_limits c = component_or_fault c (limit_fault c)

-- The numbers of the faults.
abbrev pub limit_number : LimitFault → ℕ
limit_number TooMany = 1
limit_number TooLong = 2
limit_number NotAModule = 3
