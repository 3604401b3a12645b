-- Whether a value has a type, as a test (Explainer.md, "Value Types").
use Rattle.std.specs.Prelude.{ℕ, zero, suc, ℤ, pos, neg_ℤ, ◌*◌, ◌-◌, ◌^◌, Bool, true, false, ◌&&◌}
use Rattle.std.specs.Prelude.{◌||◌}
use Rattle.std.specs.Prelude.{nat_lt, int_le, int_lt, length, nat_eq, Option, Some, None}
use Rattle.std.specs.List.{list_all}
use Rattle.cm_types.specs.Resources.{same_resource}
use Rattle.cm_types.specs.Types.{Ty, Fields, Cases, Width, width_bytes, bool, signed, unsigned}
use Rattle.cm_types.specs.Types.{char, string, list, fixed_list, fields, cases, flags, own, borrow}
use Rattle.cm_types.specs.Types.{no_fields, field, no_cases, plain, carrying}
use Rattle.cm_types.specs.Values.{Val, Vals, no_vals, val, truth, signed_number, number, scalar}
use Rattle.cm_types.specs.Values.{text, elements, parts, bare, bearing, flag_set, handle, count_of}

-- whether a number is below another one, and not below a third
abbrev pub is_between : ℤ → ℤ → ℤ → Bool
is_between low z high = int_le low z && int_lt z high

-- whether a number fits two's complement of this width
abbrev pub fits_signed_width : Width → ℤ → Bool
fits_signed_width k z =
    is_between (neg_ℤ (pos (2 ^ (8 * width_bytes k - 1)))) z (pos (2 ^ (8 * width_bytes k - 1)))

-- whether a number is a scalar
abbrev pub is_scalar_value : ℕ → Bool
is_scalar_value c = nat_lt c 0x110000 && (nat_lt c 0xD800 || nat_lt 0xDFFF c)

-- whether the case of this number is there, and carries nothing
abbrev pub is_plain_case : Cases → ℕ → Bool
is_plain_case no_cases i = false
is_plain_case (plain l cs) zero = true
is_plain_case (plain l cs) (suc i) = is_plain_case cs i
is_plain_case (carrying l t cs) zero = false
is_plain_case (carrying l t cs) (suc i) = is_plain_case cs i

-- whether each value passes
abbrev pub all_vals : (Val → Bool) → Vals → Bool
all_vals p no_vals = true
all_vals p (val v vs) = p v && all_vals p vs

abbrev mutual
  -- whether a value has a type
  pub has_type : Ty → Val → Bool
  has_type bool (truth b) = true
  has_type (signed k) (signed_number z) = fits_signed_width k z
  has_type (unsigned k) (number n) = nat_lt n (2 ^ (8 * width_bytes k))
  has_type char (scalar c) = is_scalar_value c
  has_type string (text cs) = list_all is_scalar_value cs
  has_type (list t) (elements vs) = all_vals (has_type t) vs
  has_type (fixed_list t n) (parts vs) = nat_eq (count_of vs) n && all_vals (has_type t) vs
  has_type (fields k fs) (parts vs) = have_types fs vs
  has_type (cases k cs) (bare i) = is_plain_case cs i
  has_type (cases k cs) (bearing i v) = is_carried_case cs i v
  has_type (flags ls) (flag_set n) = nat_lt n (2 ^ length ls)
  has_type (own r) (handle h) = same_resource h.resource r
  has_type (borrow r) (handle h) = same_resource h.resource r
  has_type _ _ = false

  -- whether values have the types of fields, one for one
  pub have_types : Fields → Vals → Bool
  have_types no_fields no_vals = true
  have_types no_fields (val v vs) = false
  have_types (field l t fs) no_vals = false
  have_types (field l t fs) (val v vs) = has_type t v && have_types fs vs

  -- whether the case of this number is there, and carries a value of its type
  pub is_carried_case : Cases → ℕ → Val → Bool
  is_carried_case no_cases i v = false
  is_carried_case (plain l cs) zero v = false
  is_carried_case (plain l cs) (suc i) v = is_carried_case cs i v
  is_carried_case (carrying l t cs) zero v = has_type t v
  is_carried_case (carrying l t cs) (suc i) v = is_carried_case cs i v

-- whether a payload has the type of its case: the case carries a type exactly if the value carries
-- a value, which has it
abbrev pub payload_has_type : Option Ty → Option Val → Bool
payload_has_type None None = true
payload_has_type (Some t) (Some v) = has_type t v
payload_has_type _ _ = false
