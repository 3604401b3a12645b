-- What a lowering asks for, one part after another (CanonicalABI.md, "Storing" of lists and
-- strings; the order and the sizes are this project's own choice).
use Rattle.std.specs.Prelude.{ℕ, zero, suc, ◌+◌, ◌*◌, ◌≤◌, ⊤, Bool, true, false, List, [], ◌∷◌}
use Rattle.std.specs.Prelude.{◌++◌, length, drop, nat_lt, if◌then◌else◌, Option, Some, None}
use Rattle.cm_types.specs.Values.{Val, Vals, no_vals, val, text, elements, parts, bearing, count_of}
use Rattle.cm_layout.specs.Shapes.{Shape, Parts, Payloads, LayoutTy, string_shape, list_shape}
use Rattle.cm_layout.specs.Shapes.{fixed_list_shape, fields_shape, cases_shape, no_parts, part}
use Rattle.cm_layout.specs.Shapes.{no_payloads, nothing, carried}
use Rattle.cm_abi_model.specs.declared.encoding.StringEncoding.{StringEncoding}
use Rattle.cm_abi_model.specs.declared.request.Request.{Request}
use Rattle.cm_abi_model.specs.Texts.{Charset, utf8, utf16, latin1}
use Rattle.cm_abi_model.specs.Parts.{Part, text_part, element_part, parts_each}
use Rattle.cm_abi_model.specs.Requests.{chain, read_charset, first_tag, part_align, part_sizes}
use Rattle.cm_abi_model.specs.Requests.{shrunk, stored_charset, tags_behind, text_bytes}
use Rattle.cm_abi_model.specs.Taken.{MAX_CONTENT}
use Rattle.cm_abi_model.specs.RecordRequests.{first_request}
use Rattle.cm_layout.specs.declared.heads.Head.{Head}
use Rattle.cm_abi_requests.specs.declared.asked.Asked.{Asked}
use Rattle.cm_abi_requests.specs.declared.charsets.Charset.{Charset as CodedCharset}
use Rattle.cm_abi_requests.specs.declared.charsets.Charset.TheVariants as coded
use Rattle.cm_abi_requests.specs.declared.strings.Strings.{Strings}

-- what a charset of the code is
abbrev pub charset_seen : CodedCharset → Charset
charset_seen coded.Utf8 = utf8
charset_seen coded.Utf16 = utf16
charset_seen coded.Latin1 = latin1

-- ---- the content of parts

-- how many bytes of strings and lists a part is, where its string is read in this
abbrev pub part_content : Charset → Part → ℕ
part_content source (text_part scalars) = length (text_bytes source scalars)
part_content source (element_part count size align) = count * size

-- how many bytes of strings and lists parts are, of whose strings some are tagged
abbrev pub content_of_parts : StringEncoding → List Bool → List Part → ℕ
content_of_parts source tags [] = 0
content_of_parts source tags (p ∷ ps) =
    part_content (read_charset source (first_tag tags)) p
    + content_of_parts source (tags_behind p tags) ps

-- each of the parts is within the limit
abbrev pub AreSmall : StringEncoding → List Bool → List Part → Type 0
AreSmall source tags [] = ⊤
AreSmall source tags (p ∷ ps) =
    (part_content (read_charset source (first_tag tags)) p ≤ MAX_CONTENT)
    × AreSmall source (tags_behind p tags) ps

-- ---- requests

-- the sizes that are asked for where a byte a unit may be too little
abbrev pub grown : ℕ → ℕ → ℕ → List ℕ
grown units most exact = if nat_lt units exact then units ∷ shrunk most exact else units ∷ []

-- that for a tuple of values, where more core values pass it than this
abbrev pub tuple_request : Head → ℕ → List Request
tuple_request head limit =
    if nat_lt limit head.width then first_request head.align head.size ∷ [] else []

-- the requests so far, and the tags of the strings that are still to come
pub record Asking : Type 0 where
  pub requests : List Request
  pub tags : List Bool

-- those of the code
abbrev pub asking_of : Strings → Asked → Asking
asking_of e a = record { requests = a.requests.items; tags = drop a.next e.tags.now }

-- one more part is asked for
abbrev pub ask_part : StringEncoding → StringEncoding → Part → Asking → Asking
ask_part source target p s =
    record {
      requests = s.requests ++ chain (part_align target p)
          (part_sizes (read_charset source (first_tag s.tags)) (stored_charset target) p);
      tags = tags_behind p s.tags;
    }

-- parts are asked for, one after another
abbrev pub ask_all : StringEncoding → StringEncoding → List Part → Asking → Asking
ask_all source target [] s = s
ask_all source target (p ∷ ps) s = ask_all source target ps (ask_part source target p s)

-- requests by the encodings of the code
abbrev pub ask_by : Strings → List Part → Asking → Asking
ask_by e ps s = ask_all e.source e.target ps s

-- ---- parts by a layout

abbrev mutual
  -- the parts of a value whose type has this shape, in reading order
  pub parts_by : Shape → Val → List Part
  parts_by string_shape (text cs) = text_part cs ∷ []
  parts_by (list_shape e s) (elements vs) =
      element_part (count_of vs) e.size e.align ∷ parts_each (parts_by s) vs
  parts_by (fixed_list_shape e s n) (parts vs) = parts_each (parts_by s) vs
  parts_by (fields_shape ps) (parts vs) = parts_by_fields ps vs
  parts_by (cases_shape d o ps) (bearing i v) = parts_by_case ps i v
  parts_by s v = []

  -- those of fields
  pub parts_by_fields : Parts → Vals → List Part
  parts_by_fields no_parts vs = []
  parts_by_fields (part o e s ps) no_vals = []
  parts_by_fields (part o e s ps) (val v vs) = parts_by s v ++ parts_by_fields ps vs

  -- those of what the case of this number carries
  pub parts_by_case : Payloads → ℕ → Val → List Part
  parts_by_case no_payloads i v = []
  parts_by_case (nothing ps) zero v = []
  parts_by_case (nothing ps) (suc i) v = parts_by_case ps i v
  parts_by_case (carried e s ps) zero v = parts_by s v
  parts_by_case (carried e s ps) (suc i) v = parts_by_case ps i v

-- those of what one case carries
abbrev pub parts_by_payload : Option LayoutTy → Val → List Part
parts_by_payload None v = []
parts_by_payload (Some l) v = parts_by l.shape v

-- those of a list with elements of this layout
abbrev pub parts_by_list : LayoutTy → Vals → List Part
parts_by_list l vs =
    element_part (count_of vs) l.head.size l.head.align ∷ parts_each (parts_by l.shape) vs
