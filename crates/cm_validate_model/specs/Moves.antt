-- The type of an instance, in a component that imports an instance of it: the resources that it
-- brings get the next numbers of the component.
use Rattle.std.specs.Prelude.{ℕ, ◌+◌, ◌-◌, nat_lt, if◌then◌else◌}
use Rattle.std.specs.Option.{option_map}
use Rattle.cm_types.specs.declared.resource.ResourceId.{ResourceId}
use Rattle.cm_types.specs.Signatures.{ItemTy, func_item, equal_type, equal_resource, fresh_resource}
use Rattle.cm_types.specs.Types.{Ty, FuncTy, Fields, Cases, list, fixed_list, fields, cases, own}
use Rattle.cm_types.specs.Types.{borrow, no_fields, field, no_cases, plain, carrying}
use Rattle.cm_validate_model.specs.Definitions.{InstanceTy}
use Rattle.cm_validate_model.specs.Scopes.{resource_id}

-- the number that a resource gets: one that the type brings is counted from `next` on, another one
-- is the component's own and stays
abbrev pub moved : InstanceTy → ℕ → ℕ → ℕ
moved i next n = if nat_lt n i.first then n else (n - i.first) + next

abbrev pub moved_id : InstanceTy → ℕ → ResourceId → ResourceId
moved_id i next r = resource_id (moved i next r.number)

abbrev mutual
  -- a type with the resources moved
  pub moved_type : InstanceTy → ℕ → Ty → Ty
  moved_type i next (list t) = list (moved_type i next t)
  moved_type i next (fixed_list t n) = fixed_list (moved_type i next t) n
  moved_type i next (fields k fs) = fields k (moved_fields i next fs)
  moved_type i next (cases k cs) = cases k (moved_cases i next cs)
  moved_type i next (own r) = own (moved_id i next r)
  moved_type i next (borrow r) = borrow (moved_id i next r)
  moved_type i next t = t

  pub moved_fields : InstanceTy → ℕ → Fields → Fields
  moved_fields i next no_fields = no_fields
  moved_fields i next (field l t fs) = field l (moved_type i next t) (moved_fields i next fs)

  pub moved_cases : InstanceTy → ℕ → Cases → Cases
  moved_cases i next no_cases = no_cases
  moved_cases i next (plain l cs) = plain l (moved_cases i next cs)
  moved_cases i next (carrying l t cs) = carrying l (moved_type i next t) (moved_cases i next cs)

-- the type of a function with the resources moved
abbrev pub moved_func : InstanceTy → ℕ → FuncTy → FuncTy
moved_func i next f =
    record {
      params = moved_fields i next f.params;
      result = option_map (moved_type i next) f.result;
    }

-- an item with the resources moved
abbrev pub moved_item : InstanceTy → ℕ → ItemTy → ItemTy
moved_item i next (func_item f) = func_item (moved_func i next f)
moved_item i next (equal_type t) = equal_type (moved_type i next t)
moved_item i next (equal_resource r) = equal_resource (moved_id i next r)
moved_item i next (fresh_resource r) = fresh_resource (moved_id i next r)
