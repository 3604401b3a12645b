-- What the names of types stand for where a type is written (WIT.md, "Item: `ty`").
use Rattle.std.specs.Prelude.{ℕ, List, Option, Some, None, slice_index_or}
use Rattle.std.specs.Option.{option_and_then}
use Rattle.cm_types.specs.declared.resource.ResourceId.{ResourceId}
use Rattle.cm_types.specs.Types.{Ty, own}
use Rattle.cm_names.specs.Keys.{Key, first_key}

-- what a name stands for: a value type, or a resource
pub data Meaning : Type 0 where
  value : Ty → Meaning
  resource : ResourceId → Meaning

-- a scope: what each name stands for, if it stands for something
abbrev pub Scope : Type 0
Scope = List ℕ → Option Meaning

-- Where a value type is wanted, a resource stands for the handles that own it (WIT.md, "Handles").
abbrev pub as_type : Meaning → Ty
as_type (value t) = t
as_type (resource r) = own r

abbrev pub as_resource : Meaning → Option ResourceId
as_resource (value t) = None
as_resource (resource r) = Some r

-- the scope of the names in the n-th list, where each key stands for what a table has at its place:
-- of several keys of one name the first counts
abbrev pub scope_at : List Key → List (Option Meaning) → ℕ → Scope
scope_at keys table n name =
    option_and_then (λ k. slice_index_or table k None) (first_key keys n name)
