-- Types as a host sees them: a handle is an index of the table of its instance, which is a number
-- like any of the type u32 (CanonicalABI.md, "Table State", "Loading" of own and borrow). A borrow
-- of a resource of the instance's own is its representation, which is one too ("Storing",
-- `lower_borrow`).
use Rattle.std.specs.Prelude.{[]}
use Rattle.std.specs.Option.{option_map}
use Rattle.cm_types.specs.Types.{Ty, Fields, Cases, list, fixed_list, fields, cases, own, borrow}
use Rattle.cm_types.specs.Types.{unsigned, bits_32, no_fields, field, no_cases, plain, carrying}
use Rattle.cm_types.specs.TypeTrees.{TypedLabel, CaseOf}

abbrev mutual
  -- a type with u32 in the place of each handle
  pub indexed : Ty → Ty
  indexed (list t) = list (indexed t)
  indexed (fixed_list t n) = fixed_list (indexed t) n
  indexed (fields k fs) = fields k (indexed_fields fs)
  indexed (cases k cs) = cases k (indexed_cases cs)
  indexed (own r) = unsigned bits_32
  indexed (borrow r) = unsigned bits_32
  indexed t = t

  pub indexed_fields : Fields → Fields
  indexed_fields no_fields = no_fields
  indexed_fields (field l t fs) = field l (indexed t) (indexed_fields fs)

  pub indexed_cases : Cases → Cases
  indexed_cases no_cases = no_cases
  indexed_cases (plain l cs) = plain l (indexed_cases cs)
  indexed_cases (carrying l t cs) = carrying l (indexed t) (indexed_cases cs)

-- a field, and a case, alike
abbrev pub indexed_field : TypedLabel → TypedLabel
indexed_field f = (f.0, indexed f.1)

abbrev pub indexed_case : CaseOf → CaseOf
indexed_case c = (c.0, option_map indexed c.1)

-- the types of the values of a call, as a host sees them: values in a row, without labels
abbrev pub host_types : Fields → Fields
host_types no_fields = no_fields
host_types (field l t fs) = field [] (indexed t) (host_types fs)
