-- The memory that a lowering asks for (CanonicalABI.md, "Storing" of lists and strings; that all of
-- it is asked for before anything is stored, in reading order and in these sizes, is this project's
-- own choice).
use Rattle.std.specs.Prelude.{ℕ, ◌+◌, ◌*◌, ◌/◌, ◌⊎◌, ⊤, Bool, true, false, List, [], ◌∷◌, ◌++◌}
use Rattle.std.specs.Prelude.{length, nat_lt, if◌then◌else◌}
use Rattle.std.specs.List.{AllByRecursion, flat_map}
use Rattle.cm_types.specs.Types.{Ty, Fields, Cases, string, list, fixed_list, fields, cases}
use Rattle.cm_types.specs.Types.{no_fields, field, no_cases, plain, carrying, tuple_type}
use Rattle.cm_types.specs.Values.{Val}
use Rattle.cm_layout.specs.Sizes.{align_of, size_of}
use Rattle.cm_layout.specs.Flattening.{flat_of_fields}
use Rattle.cm_abi_model.specs.declared.encoding.StringEncoding.{StringEncoding}
use Rattle.cm_abi_model.specs.declared.encoding.StringEncoding.TheVariants as encoding
use Rattle.cm_abi_model.specs.declared.request.Request.{Request}
use Rattle.cm_abi_model.specs.Texts.{Charset, Has, utf8, utf16, latin1, spell, unit_size}
use Rattle.cm_abi_model.specs.Texts.{text_align}
use Rattle.cm_abi_model.specs.Parts.{Part, text_part, element_part, handle_count, part_count}
use Rattle.cm_abi_model.specs.Parts.{parts_in}
use Rattle.cm_abi_model.specs.Views.{Way, flat_limit}

-- what a string is in, where a tag says whether it is Latin-1 or UTF-16: UTF-16 where it is set
abbrev pub tagged_charset : Bool → Charset
tagged_charset tag = if tag then utf16 else latin1

-- what strings are in, one after another, where so many have a tag and the others none
abbrev pub read_charset : StringEncoding → Bool → Charset
read_charset encoding.Utf8 tag = utf8
read_charset encoding.Utf16 tag = utf16
read_charset encoding.Latin1OrUtf16 tag = tagged_charset tag

-- what a stored string is in; Latin-1 is never stored
abbrev pub stored_charset : StringEncoding → Charset
stored_charset encoding.Utf8 = utf8
stored_charset encoding.Utf16 = utf16
stored_charset encoding.Latin1OrUtf16 = utf16

-- strings may be stored in it
abbrev pub IsStored : StringEncoding → Type 0
IsStored encoding.Utf8 = ⊤
IsStored encoding.Utf16 = ⊤
IsStored encoding.Latin1OrUtf16 = ⊥

abbrev mutual
  -- no string stands in a type
  pub HasNoString : Ty → Type 0
  HasNoString string = ⊥
  HasNoString (list t) = HasNoString t
  HasNoString (fixed_list t n) = HasNoString t
  HasNoString (fields k fs) = HaveNoString fs
  HasNoString (cases k cs) = CarryNoString cs
  HasNoString t = ⊤

  pub HaveNoString : Fields → Type 0
  HaveNoString no_fields = ⊤
  HaveNoString (field l t fs) = HasNoString t × HaveNoString fs

  pub CarryNoString : Cases → Type 0
  CarryNoString no_cases = ⊤
  CarryNoString (plain l cs) = CarryNoString cs
  CarryNoString (carrying l t cs) = HasNoString t × CarryNoString cs

-- values of these types may be stored where strings are in this encoding: strings may be, or there
-- are none
abbrev pub CanStore : StringEncoding → Fields → Type 0
CanStore target types = IsStored target ⊎ HaveNoString types

-- the bytes of a string, and how many units it has
abbrev pub text_bytes : Charset → List ℕ → List ℕ
text_bytes s scalars = flat_map (spell s) scalars

abbrev pub text_units : Charset → List ℕ → ℕ
text_units s scalars = length (text_bytes s scalars) / unit_size s

-- the size of what is kept, and before it the size that was asked for, where that is another
abbrev pub shrunk : ℕ → ℕ → List ℕ
shrunk size exact = if nat_lt exact size then size ∷ exact ∷ [] else size ∷ []

-- The sizes that are asked for one after another, for a string that has so many units in its source
-- and takes so many bytes where it is stored. One that is stored as it was read takes its exact
-- size, and one of Latin-1 twice its bytes in UTF-16. UTF-8 to UTF-16: two bytes a byte, then what
-- it takes. To UTF-8: one byte a unit; then, where that is too little, the most that its units may
-- take, and what it takes.
abbrev pub text_sizes : Charset → Charset → ℕ → ℕ → List ℕ
text_sizes utf8 utf16 units exact = shrunk (2 * units) exact
text_sizes utf16 utf8 units exact =
    if nat_lt units exact then units ∷ shrunk (3 * units) exact else units ∷ []
text_sizes latin1 utf8 units exact =
    if nat_lt units exact then units ∷ shrunk (2 * units) exact else units ∷ []
text_sizes source target units exact = exact ∷ []

-- the sizes that are asked for a part
abbrev pub part_sizes : Charset → Charset → Part → List ℕ
part_sizes source target (text_part scalars) =
    text_sizes source target (text_units source scalars) (length (text_bytes target scalars))
part_sizes source target (element_part count size align) = count * size ∷ []

-- the last of sizes
abbrev pub last_size : List ℕ → ℕ
last_size [] = 0
last_size (size ∷ []) = size
last_size (size ∷ next ∷ sizes) = last_size (next ∷ sizes)

-- a part can come from a source: the scalars of a string are spelled there
abbrev pub HasScalars : Charset → Part → Type 0
HasScalars source (text_part scalars) = AllByRecursion (Has source) scalars
HasScalars source (element_part count size align) = ⊤

-- the alignment of a part
abbrev pub part_align : StringEncoding → Part → ℕ
part_align target (text_part scalars) = text_align target
part_align target (element_part count size align) = align

-- further requests for the same part: each hands back what the one before it got
abbrev pub growths : ℕ → ℕ → List ℕ → List Request
growths align old [] = []
growths align old (size ∷ sizes) =
    record { chained = true; old_size = old; align = align; size = size } ∷ growths align size sizes

-- the requests for a part, the first of which hands nothing back
abbrev pub chain : ℕ → List ℕ → List Request
chain align [] = []
chain align (size ∷ sizes) =
    record { chained = false; old_size = 0; align = align; size = size } ∷ growths align size sizes

-- the tags behind that of a part, which has one where it is a string
abbrev pub tags_behind : Part → List Bool → List Bool
tags_behind (text_part scalars) [] = []
tags_behind (text_part scalars) (tag ∷ tags) = tags
tags_behind (element_part count size align) tags = tags

abbrev pub first_tag : List Bool → Bool
first_tag [] = false
first_tag (tag ∷ tags) = tag

-- the requests for parts, one part after another; of each string whether it is tagged as UTF-16 in
-- the source
abbrev pub part_requests : StringEncoding → StringEncoding → List Bool → List Part → List Request
part_requests source target tags [] = []
part_requests source target tags (part ∷ parts) =
    chain (part_align target part)
    (part_sizes (read_charset source (first_tag tags)) (stored_charset target) part)
    ++ part_requests source target (tags_behind part tags) parts

-- the types take more core values than are passed flat that way
abbrev pub is_spilled : Way → Fields → Bool
is_spilled way types = nat_lt (flat_limit way) (length (flat_of_fields types))

-- the tuple of the types
abbrev pub tuple_of : Fields → Ty
tuple_of types = fields tuple_type types

-- the parts of what a call passes: where it is spilled its tuple is one, before all others
abbrev pub call_parts : Way → Fields → Val → List Part
call_parts way types v =
    if is_spilled way types
    then element_part 1 (size_of (tuple_of types)) (align_of (tuple_of types))
    ∷ parts_in (tuple_of types) v
    else parts_in (tuple_of types) v

-- how many things are kept of a value while it is passed that way: its strings and its lists, its
-- tuple where that is spilled, and its handles
abbrev pub parts_of : Way → Fields → Val → ℕ
parts_of way types v =
    (if is_spilled way types then 1 else 0) + part_count v + handle_count v

-- what lowering the tuple of these types asks for. The tuple of results is answered by the pointer
-- that the caller gave.
abbrev pub requests : Way → Fields → Val → StringEncoding → StringEncoding → List Bool
    → List Request
requests way types v source target tags =
    part_requests source target tags (call_parts way types v)

-- what is asked for the tuple of these types, where it is spilled
abbrev pub spilled_request : Fields → Request
spilled_request types =
    record {
      chained = false;
      old_size = 0;
      align = align_of (tuple_of types);
      size = size_of (tuple_of types);
    }
