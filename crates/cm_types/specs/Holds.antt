-- What is in a type: whether it, or a type that it holds, is of a kind (Explainer.md, "Value
-- Types").
use Rattle.std.specs.Prelude.{Bool, true, false, ◌||◌}
use Rattle.cm_types.specs.Types.{Ty, Fields, Cases, string, list, fixed_list, fields, cases, own}
use Rattle.cm_types.specs.Types.{borrow, no_fields, field, no_cases, plain, carrying}

abbrev mutual
  -- whether a type, or one that it holds, passes a test
  pub holds : (Ty → Bool) → Ty → Bool
  holds test (list t) = test (list t) || holds test t
  holds test (fixed_list t n) = test (fixed_list t n) || holds test t
  holds test (fields k fs) = test (fields k fs) || fields_hold test fs
  holds test (cases k cs) = test (cases k cs) || cases_hold test cs
  holds test t = test t

  pub fields_hold : (Ty → Bool) → Fields → Bool
  fields_hold test no_fields = false
  fields_hold test (field l t fs) = holds test t || fields_hold test fs

  pub cases_hold : (Ty → Bool) → Cases → Bool
  cases_hold test no_cases = false
  cases_hold test (plain l cs) = cases_hold test cs
  cases_hold test (carrying l t cs) = holds test t || cases_hold test cs

-- a string
abbrev pub is_string : Ty → Bool
is_string string = true
is_string _ = false

-- a list of any length: a pointer leads to its elements
abbrev pub is_list : Ty → Bool
is_list (list t) = true
is_list _ = false

-- a borrow of a resource
abbrev pub is_borrow : Ty → Bool
is_borrow (borrow r) = true
is_borrow _ = false

-- a handle of a resource, owned or borrowed
abbrev pub is_handle : Ty → Bool
is_handle (own r) = true
is_handle (borrow r) = true
is_handle _ = false
