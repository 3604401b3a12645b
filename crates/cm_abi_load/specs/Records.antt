-- What is kept of the parts of a value that stands in a memory (CanonicalABI.md, "Loading"; what is
-- kept of each is this project's own choice).
use Rattle.std.specs.Prelude.{ℕ, zero, suc, ◌+◌, ◌*◌, Bool, false, not, nat_lt, List, [], ◌∷◌}
use Rattle.std.specs.Prelude.{◌++◌, Option, Some, None}
use Rattle.cm_types.specs.Values.{Val, Vals, no_vals, val, elements, parts, bare, bearing}
use Rattle.cm_layout.specs.declared.heads.Head.{Head}
use Rattle.cm_layout.specs.Shapes.{Shape, Parts, Payloads, LayoutTy, leaf_shape}
use Rattle.cm_layout.specs.Shapes.{string_shape, list_shape, fixed_list_shape, fields_shape}
use Rattle.cm_layout.specs.Shapes.{cases_shape, handle_shape}
use Rattle.cm_layout.specs.Shapes.{no_parts, part, no_payloads, nothing, carried}
use Rattle.cm_abi_model.specs.declared.encoding.StringEncoding.{StringEncoding}
use Rattle.cm_abi_model.specs.declared.encoding.StringEncoding.TheVariants as encoding
use Rattle.cm_abi_model.specs.Numbers.{number_at}
use Rattle.cm_abi_model.specs.Requests.{stored_charset}
use Rattle.cm_abi_model.specs.Texts.{UTF16_TAG, text_align, units_of}
use Rattle.cm_abi_load.specs.Reading.{Source}
use Rattle.cm_abi_load.specs.TextSizes.{text_length}
use Rattle.cm_abi_model.specs.declared.record.PartRecord.{PartRecord}
use Rattle.cm_abi_model.specs.declared.record.PartKind.TheVariants as kind

-- a length says UTF-16 by its tag
abbrev pub is_tagged : StringEncoding → ℕ → Bool
is_tagged encoding.Utf8 n = false
is_tagged encoding.Utf16 n = false
is_tagged encoding.Latin1OrUtf16 n = not (nat_lt n UTF16_TAG)

-- the record of a string at a pointer, of a tagged length, from one encoding to another
abbrev pub text_record : StringEncoding → StringEncoding → ℕ → ℕ → Val → PartRecord
text_record source target at n v =
    record {
      at = at;
      count = units_of source n;
      size = text_length (stored_charset target) v;
      align = text_align target;
      kind = kind.Text (is_tagged source n);
    }

-- the record of so many elements at a pointer
abbrev pub element_record : Head → ℕ → ℕ → PartRecord
element_record e at n =
    record { at = at; count = n; size = n * e.size; align = e.align; kind = kind.Elements }

-- the values that a value holds
abbrev pub held : Val → Vals
held (elements vs) = vs
held (parts vs) = vs
held v = no_vals

-- the number of the case that a value is, and what it carries
abbrev pub case_number : Val → ℕ
case_number (bare i) = i
case_number (bearing i v) = i
case_number v = 0

abbrev pub payload : Val → Option Val
payload (bearing i v) = Some v
payload v = None

-- the records of values one behind the other
abbrev pub records_each : (ℕ → Val → List PartRecord) → ℕ → ℕ → Vals → List PartRecord
records_each R size p no_vals = []
records_each R size p (val v vs) = R p v ++ records_each R size (p + size) vs

-- those of a list at a pointer: that of its elements, and what is behind theirs
abbrev pub records_of_list : (ℕ → Val → List PartRecord) → Head → ℕ → ℕ → Val → List PartRecord
records_of_list R e at n v = element_record e at n ∷ records_each R e.size at (held v)

abbrev mutual
  -- the records of the parts of a value of this shape at an address, in reading order
  pub records_at : Source → StringEncoding → Shape → ℕ → Val → List PartRecord
  records_at w target (leaf_shape k) p v = []
  records_at w target string_shape p v =
      text_record w.encoding target (number_at 4 w.memory p) (number_at 4 w.memory (p + 4)) v ∷ []
  records_at w target (list_shape e sh) p v =
      records_of_list (records_at w target sh) e
      (number_at 4 w.memory p) (number_at 4 w.memory (p + 4)) v
  records_at w target (fixed_list_shape e sh n) p v =
      records_each (records_at w target sh) e.size p (held v)
  records_at w target (fields_shape ps) p v = records_of_fields w target ps p (held v)
  records_at w target (cases_shape d o ps) p v =
      records_of_case w target ps (case_number v) (p + o) (payload v)
  records_at w target (handle_shape h) p v = []

  -- those of fields, each at its offset from an address
  pub records_of_fields : Source → StringEncoding → Parts → ℕ → Vals → List PartRecord
  records_of_fields w target no_parts p vs = []
  records_of_fields w target (part o e sh ps) p no_vals = []
  records_of_fields w target (part o e sh ps) p (val v vs) =
      records_at w target sh (p + o) v ++ records_of_fields w target ps p vs

  -- those of what the case of this number carries at an address, if it carries anything
  pub records_of_case : Source → StringEncoding → Payloads → ℕ → ℕ → Option Val
      → List PartRecord
  records_of_case w target no_payloads i p o = []
  records_of_case w target (nothing ps) zero p o = []
  records_of_case w target (nothing ps) (suc i) p o = records_of_case w target ps i p o
  records_of_case w target (carried e sh ps) zero p None = []
  records_of_case w target (carried e sh ps) zero p (Some v) = records_at w target sh p v
  records_of_case w target (carried e sh ps) (suc i) p o = records_of_case w target ps i p o

-- those of a case with what it carries at an address
abbrev pub records_of_cases : Source → StringEncoding → Payloads → ℕ → Val → List PartRecord
records_of_cases w target ps p v = records_of_case w target ps (case_number v) p (payload v)

-- those of what one case carries, by its layout
abbrev pub records_of_payload : Source → StringEncoding → Option LayoutTy → ℕ → Option Val
    → List PartRecord
records_of_payload w target (Some l) p (Some v) = records_at w target l.shape p v
records_of_payload w target o p v = []
