-- Types with each resource replaced by what stands for it.
use Rattle.std.specs.Option.{option_map}
use Rattle.cm_types.specs.declared.resource.ResourceId.{ResourceId}
use Rattle.cm_types.specs.Types.{Ty, FuncTy, Fields, Cases, list, fixed_list, fields, cases, own}
use Rattle.cm_types.specs.Types.{borrow, no_fields, field, no_cases, plain, carrying}

-- what stands for each resource
abbrev pub Standing : Type 0
Standing = ResourceId → ResourceId

abbrev mutual
  -- a type with each resource in it replaced
  pub replaced : Standing → Ty → Ty
  replaced s (list t) = list (replaced s t)
  replaced s (fixed_list t n) = fixed_list (replaced s t) n
  replaced s (fields k fs) = fields k (replaced_fields s fs)
  replaced s (cases k cs) = cases k (replaced_cases s cs)
  replaced s (own r) = own (s r)
  replaced s (borrow r) = borrow (s r)
  replaced s t = t

  -- fields with each resource in their types replaced
  pub replaced_fields : Standing → Fields → Fields
  replaced_fields s no_fields = no_fields
  replaced_fields s (field l t fs) = field l (replaced s t) (replaced_fields s fs)

  pub replaced_cases : Standing → Cases → Cases
  replaced_cases s no_cases = no_cases
  replaced_cases s (plain l cs) = plain l (replaced_cases s cs)
  replaced_cases s (carrying l t cs) = carrying l (replaced s t) (replaced_cases s cs)

-- the type of a function with each resource in it replaced
abbrev pub replaced_func : Standing → FuncTy → FuncTy
replaced_func s f =
    record { params = replaced_fields s f.params; result = option_map (replaced s) f.result }
