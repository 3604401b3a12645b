-- The resources that types name (Explainer.md, "Type Definitions"): the first so many of the
-- component's own.
use Rattle.std.specs.Prelude.{◌≡◌, ◌<◌, ⊤, ℕ, IfSome}
use Rattle.cm_types.specs.declared.resource.ResourceId.{ResourceId}
use Rattle.cm_types.specs.Signatures.{ItemTy, func_item, equal_type, equal_resource}
use Rattle.cm_types.specs.Signatures.{fresh_resource}
use Rattle.cm_types.specs.Types.{Ty, FuncTy, Fields, Cases, list, fixed_list, fields, cases, own}
use Rattle.cm_types.specs.Types.{borrow, no_fields, field, no_cases, plain, carrying}

-- one of the component's first so many resources
abbrev pub IsAmongFirst : ℕ → ResourceId → Type 0
IsAmongFirst n r = (r.component ≡ 0) × (r.number < n)

abbrev mutual
  -- a type names no other resources
  pub IsCounted : ℕ → Ty → Type 0
  IsCounted n (list t) = IsCounted n t
  IsCounted n (fixed_list t k) = IsCounted n t
  IsCounted n (fields k fs) = AreCounted n fs
  IsCounted n (cases k cs) = AreCasesCounted n cs
  IsCounted n (own r) = IsAmongFirst n r
  IsCounted n (borrow r) = IsAmongFirst n r
  IsCounted n t = ⊤

  pub AreCounted : ℕ → Fields → Type 0
  AreCounted n no_fields = ⊤
  AreCounted n (field l t fs) = IsCounted n t × AreCounted n fs

  pub AreCasesCounted : ℕ → Cases → Type 0
  AreCasesCounted n no_cases = ⊤
  AreCasesCounted n (plain l cs) = AreCasesCounted n cs
  AreCasesCounted n (carrying l t cs) = IsCounted n t × AreCasesCounted n cs

-- the type of a function
abbrev pub IsFuncCounted : ℕ → FuncTy → Type 0
IsFuncCounted n f = AreCounted n f.params × IfSome f.result (IsCounted n)

-- an item of an instance
abbrev pub IsItemCounted : ℕ → ItemTy → Type 0
IsItemCounted n (func_item f) = IsFuncCounted n f
IsItemCounted n (equal_type t) = IsCounted n t
IsItemCounted n (equal_resource r) = IsAmongFirst n r
IsItemCounted n (fresh_resource r) = IsAmongFirst n r
