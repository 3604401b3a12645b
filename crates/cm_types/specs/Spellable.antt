-- Types that a component file can spell (Binary.md, "Type Definitions").
use Rattle.std.specs.Prelude.{Bool, true, false, not, ◌&&◌, nat_le, nat_lt, length, Option, Some}
use Rattle.std.specs.Prelude.{None}
use Rattle.cm_types.specs.declared.spellable.TheConstants.{MAX_FLAGS}
use Rattle.cm_types.specs.Types.{Ty, Fields, Cases, list, fixed_list, fields, cases, flags}
use Rattle.cm_types.specs.Types.{no_fields, field, no_cases, plain, carrying}

-- whether there is no field, and no case
abbrev pub has_no_fields : Fields → Bool
has_no_fields no_fields = true
has_no_fields (field l t fs) = false

abbrev pub has_no_cases : Cases → Bool
has_no_cases no_cases = true
has_no_cases (plain l cs) = false
has_no_cases (carrying l t cs) = false

abbrev mutual
  -- A file can spell a type where each list of fixed length has one element or more, each record,
  -- tuple, variant and enum one field or case or more, and each flags type from 1 to 32 labels.
  pub is_spellable : Ty → Bool
  is_spellable (list t) = is_spellable t
  is_spellable (fixed_list t n) = nat_lt 0 n && is_spellable t
  is_spellable (fields k fs) = not (has_no_fields fs) && are_spellable fs
  is_spellable (cases k cs) = not (has_no_cases cs) && are_spellable_payloads cs
  is_spellable (flags ls) = nat_lt 0 (length ls) && nat_le (length ls) MAX_FLAGS
  is_spellable _ = true

  -- a file can spell the type of each field
  pub are_spellable : Fields → Bool
  are_spellable no_fields = true
  are_spellable (field l t fs) = is_spellable t && are_spellable fs

  -- a file can spell each payload
  pub are_spellable_payloads : Cases → Bool
  are_spellable_payloads no_cases = true
  are_spellable_payloads (plain l cs) = are_spellable_payloads cs
  are_spellable_payloads (carrying l t cs) = is_spellable t && are_spellable_payloads cs

-- a file can spell a payload, if there is one
abbrev pub is_spellable_payload : Option Ty → Bool
is_spellable_payload None = true
is_spellable_payload (Some t) = is_spellable t
