-- Types with each resource replaced by what stands for it.
use Rattle.std.specs.Prelude.{List}
use Rattle.std.specs.Option.{option_map}
use Rattle.cm_types.specs.declared.resource.ResourceId.{ResourceId}
use Rattle.cm_types.specs.Resources.{resolve}
use Rattle.cm_types.specs.Types.{Ty, FuncTy, Fields, Cases, list, fixed_list, fields, cases, own}
use Rattle.cm_types.specs.Types.{borrow, no_fields, field, no_cases, plain, carrying}

abbrev mutual
  -- a type with each resource leaf replaced by what stands for it
  pub resolved : List ResourceId → Ty → Ty
  resolved rs (list t) = list (resolved rs t)
  resolved rs (fixed_list t n) = fixed_list (resolved rs t) n
  resolved rs (fields k fs) = fields k (resolved_fields rs fs)
  resolved rs (cases k cs) = cases k (resolved_cases rs cs)
  resolved rs (own r) = own (resolve rs r)
  resolved rs (borrow r) = borrow (resolve rs r)
  resolved rs t = t

  pub resolved_fields : List ResourceId → Fields → Fields
  resolved_fields rs no_fields = no_fields
  resolved_fields rs (field l t fs) = field l (resolved rs t) (resolved_fields rs fs)

  pub resolved_cases : List ResourceId → Cases → Cases
  resolved_cases rs no_cases = no_cases
  resolved_cases rs (plain l cs) = plain l (resolved_cases rs cs)
  resolved_cases rs (carrying l t cs) = carrying l (resolved rs t) (resolved_cases rs cs)

-- the type of a function with each resource replaced
abbrev pub resolved_func : List ResourceId → FuncTy → FuncTy
resolved_func rs f =
    record { params = resolved_fields rs f.params; result = option_map (resolved rs) f.result }
