-- The value that bytes show, as a function (CanonicalABI.md, "Loading"): the one that is read where
-- reading comes to no fault, and else some value. Of a handle it tells nothing: neither bytes nor
-- core values that store a value tell of its handles more than the numbers that they were given.
use Rattle.std.specs.Prelude.{ℕ, zero, suc, ◌+◌, ◌%◌, ◌^◌, ◌==◌, not, List, [], Option, Some, None}
use Rattle.cm_types.specs.Values.{Val, Vals, HandleValue, no_vals, val, truth, signed_number}
use Rattle.cm_types.specs.Values.{number, scalar, text, elements, parts, bare, bearing, flag_set}
use Rattle.cm_types.specs.Values.{handle}
use Rattle.cm_layout.specs.declared.layouts.Leaf.{Leaf}
use Rattle.cm_layout.specs.declared.layouts.Leaf.TheVariants as leaf
use Rattle.cm_layout.specs.Laid.{leaf_size}
use Rattle.cm_layout.specs.Shapes.{Shape, Parts, Payloads, leaf_shape, string_shape}
use Rattle.cm_layout.specs.Shapes.{list_shape, fixed_list_shape, fields_shape, cases_shape}
use Rattle.cm_layout.specs.Shapes.{handle_shape, no_parts, part, no_payloads, nothing, carried}
use Rattle.cm_abi_model.specs.declared.encoding.StringEncoding.{StringEncoding}
use Rattle.cm_abi_model.specs.Numbers.{as_signed, number_at}
use Rattle.cm_abi_model.specs.Texts.{bytes_from, charset_of, text_size}
use Rattle.cm_abi_load.specs.Decoded.{decoded}

-- the handle that stands for any: a copy does not look at handles
abbrev pub some_handle : HandleValue
some_handle =
    record { serial = 0; rep = 0; resource = record { component = 0; number = 0 } }

-- a value with nothing told of its handles
abbrev mutual
  pub without_handles : Val → Val
  without_handles (handle h) = handle some_handle
  without_handles (elements vs) = elements (all_without_handles vs)
  without_handles (parts vs) = parts (all_without_handles vs)
  without_handles (bearing i v) = bearing i (without_handles v)
  without_handles v = v

  pub all_without_handles : Vals → Vals
  all_without_handles no_vals = no_vals
  all_without_handles (val v vs) = val (without_handles v) (all_without_handles vs)

-- the value of a leaf from its number
abbrev pub leaf_shown : Leaf → ℕ → Val
leaf_shown leaf.Bool n = truth (not (n == 0))
leaf_shown (leaf.Signed w) n = signed_number (as_signed w n)
leaf_shown (leaf.Unsigned w) n = number n
leaf_shown leaf.Char n = scalar n
leaf_shown (leaf.Flags labels w) n = flag_set (n % 2 ^ labels)

-- scalars, and none where there are none
abbrev pub or_no_scalars : Option (List ℕ) → List ℕ
or_no_scalars None = []
or_no_scalars (Some cs) = cs

-- the scalars of the string at a pointer, of a tagged length
abbrev pub scalars_at : List ℕ → StringEncoding → ℕ → ℕ → List ℕ
scalars_at memory e at n =
    or_no_scalars (decoded (charset_of e n) (bytes_from memory at (text_size e n)))

-- so many values, one behind the other
abbrev pub values_each : (ℕ → Val) → ℕ → ℕ → ℕ → Vals
values_each V size zero p = no_vals
values_each V size (suc n) p = val (V p) (values_each V size n (p + size))

abbrev mutual
  -- the value of this shape at an address
  pub value_at : List ℕ → StringEncoding → Shape → ℕ → Val
  value_at m e (leaf_shape k) p = leaf_shown k (number_at (leaf_size k) m p)
  value_at m e string_shape p = text (scalars_at m e (number_at 4 m p) (number_at 4 m (p + 4)))
  value_at m e (list_shape h sh) p =
      elements (values_each (value_at m e sh) h.size (number_at 4 m (p + 4)) (number_at 4 m p))
  value_at m e (fixed_list_shape h sh n) p = parts (values_each (value_at m e sh) h.size n p)
  value_at m e (fields_shape ps) p = parts (values_at m e ps p)
  value_at m e (cases_shape d o ps) p =
      case_at m e ps (number_at d m p) (number_at d m p) (p + o)
  value_at m e (handle_shape x) p = handle some_handle

  -- fields, each at its offset from an address
  pub values_at : List ℕ → StringEncoding → Parts → ℕ → Vals
  values_at m e no_parts p = no_vals
  values_at m e (part o h sh ps) p = val (value_at m e sh (p + o)) (values_at m e ps p)

  -- case i, of which so many cases before it are left out, with its payload at an address
  pub case_at : List ℕ → StringEncoding → Payloads → ℕ → ℕ → ℕ → Val
  case_at m e no_payloads i n p = bare i
  case_at m e (nothing ps) i zero p = bare i
  case_at m e (nothing ps) i (suc n) p = case_at m e ps i n p
  case_at m e (carried h sh ps) i zero p = bearing i (value_at m e sh p)
  case_at m e (carried h sh ps) i (suc n) p = case_at m e ps i n p
