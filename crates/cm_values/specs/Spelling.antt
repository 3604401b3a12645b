-- The text of a value of a type (WAVE, "Encoding"). A handle is written as its serial number and
-- its representation (this project's own choice). A value that has not the type has no text.
use Rattle.std.specs.Prelude.{ℕ, zero, suc, ◌+◌, ◌==◌, Bool, true, false, if◌then◌else◌, List, []}
use Rattle.std.specs.Prelude.{◌∷◌, ◌++◌, codes, Option, Some, None}
use Rattle.std.specs.Fmt.{decimal, signed_decimal}
use Rattle.std.specs.Int.{bit_at}
use Rattle.std.specs.List.{flat_map}
use Rattle.cm_types.specs.Types.{Ty, Fields, Cases, FieldsKind, CasesKind, bool, signed, unsigned}
use Rattle.cm_types.specs.Types.{char, string, list, fixed_list, fields, cases, flags, own, borrow}
use Rattle.cm_types.specs.Types.{field, no_cases, plain, carrying, record_type}
use Rattle.cm_types.specs.Types.{tuple_type}
use Rattle.cm_types.specs.Values.{Val, Vals, no_vals, val, truth, signed_number}
use Rattle.cm_types.specs.Values.{number, scalar, text, elements, parts, bare, bearing, flag_set}
use Rattle.cm_types.specs.Values.{handle}
use Rattle.cm_values.specs.SpelledNames.{case_word, name_spelling}
use Rattle.cm_values.specs.Quotes.{quoted}

-- texts with a comma and a blank between them
abbrev pub with_commas : List (List ℕ) → List ℕ
with_commas [] = []
with_commas (p ∷ ps) = p ++ flat_map (λ q. codes ", " ++ q) ps

-- what stands before the n-th of them, from 0
abbrev pub comma_before : ℕ → List ℕ
comma_before zero = []
comma_before (suc n) = codes ", "

abbrev pub truth_spelling : Bool → List ℕ
truth_spelling true = codes "true"
truth_spelling false = codes "false"

-- the labels that are set, from this place on
abbrev pub set_labels : ℕ → List (List ℕ) → ℕ → List (List ℕ)
set_labels i [] n = []
set_labels i (l ∷ ls) n =
    if bit_at n i == 1 then name_spelling l ∷ set_labels (i + 1) ls n else set_labels (i + 1) ls n

-- between two marks
abbrev pub in_marks : List ℕ → List ℕ → List ℕ → List ℕ
in_marks first last inner = first ++ (inner ++ last)

-- a handle with this serial number and this representation
abbrev pub handle_spelling : ℕ → ℕ → List ℕ
handle_spelling serial rep = codes "#" ++ (decimal serial ++ (codes ":" ++ decimal rep))

-- a case with this name: both its type and its value have a payload, or neither
abbrev pub case_end : List ℕ → Option (Val → List ℕ) → Option Val → List ℕ
case_end name None None = name
case_end name (Some spell) (Some v) = name ++ in_marks (codes "(") (codes ")") (spell v)
case_end name _ _ = []

-- values between the marks of a list
abbrev pub list_spelling : List (List ℕ) → List ℕ
list_spelling ps = in_marks (codes "[") (codes "]") (with_commas ps)

-- fields between their marks
abbrev pub fields_spelling : FieldsKind → List (List ℕ) → List ℕ
fields_spelling record_type ps = in_marks (codes "{") (codes "}") (with_commas ps)
fields_spelling tuple_type ps = in_marks (codes "(") (codes ")") (with_commas ps)

-- what stands before the value of a field
abbrev pub label_spelling : FieldsKind → List ℕ → List ℕ
label_spelling record_type l = name_spelling l ++ codes ": "
label_spelling tuple_type l = []

-- values, each spelled so
abbrev pub each : (Val → List ℕ) → Vals → List (List ℕ)
each spell no_vals = []
each spell (val v vs) = spell v ∷ each spell vs

-- the name of the case at this place, which carries nothing
abbrev pub bare_spelling : CasesKind → Cases → ℕ → List ℕ
bare_spelling k no_cases i = []
bare_spelling k (plain l cs) zero = case_word k l
bare_spelling k (plain l cs) (suc i) = bare_spelling k cs i
bare_spelling k (carrying l t cs) zero = []
bare_spelling k (carrying l t cs) (suc i) = bare_spelling k cs i

-- a text in the place of another one, if there is one
abbrev pub or_text : Option (List ℕ) → List ℕ → List ℕ
or_text None usual = usual
or_text (Some other) usual = other

-- the texts that some values have in the place of those of the notation
abbrev pub Words : Type 0
Words = Ty → Val → Option (List ℕ)

abbrev mutual
  -- a value of a type by the notation, if its parts have these texts
  pub usual_by : Words → Ty → Val → List ℕ
  usual_by words bool (truth b) = truth_spelling b
  usual_by words (signed k) (signed_number z) = signed_decimal z
  usual_by words (unsigned k) (number n) = decimal n
  usual_by words char (scalar c) = quoted 0x27 (c ∷ [])
  usual_by words string (text cs) = quoted 0x22 cs
  usual_by words (list t) (elements vs) =
      list_spelling (each (λ v. or_text (words t v) (usual_by words t v)) vs)
  usual_by words (fixed_list t n) (parts vs) =
      list_spelling (each (λ v. or_text (words t v) (usual_by words t v)) vs)
  usual_by words (fields k fs) (parts vs) = fields_spelling k (fields_by words k fs vs)
  usual_by words (cases k cs) (bare i) = bare_spelling k cs i
  usual_by words (cases k cs) (bearing i v) = bearing_by words k cs i v
  usual_by words (flags ls) (flag_set n) =
      in_marks (codes "{") (codes "}") (with_commas (set_labels 0 ls n))
  usual_by words (own r) (handle h) = handle_spelling h.serial h.rep
  usual_by words (borrow r) (handle h) = handle_spelling h.serial h.rep
  usual_by words _ _ = []

  -- fields of a record, with their labels, or of a tuple
  pub fields_by : Words → FieldsKind → Fields → Vals → List (List ℕ)
  fields_by words k (field l t fs) (val v vs) =
      (label_spelling k l ++ or_text (words t v) (usual_by words t v)) ∷ fields_by words k fs vs
  fields_by words k _ _ = []

  -- the case at this place with its payload
  pub bearing_by : Words → CasesKind → Cases → ℕ → Val → List ℕ
  bearing_by words k no_cases i v = []
  bearing_by words k (plain l cs) zero v = []
  bearing_by words k (plain l cs) (suc i) v = bearing_by words k cs i v
  bearing_by words k (carrying l t cs) zero v =
      case_end (case_word k l) (Some (λ u. or_text (words t u) (usual_by words t u))) (Some v)
  bearing_by words k (carrying l t cs) (suc i) v = bearing_by words k cs i v

-- a value of a type: its text among these, or that of the notation
abbrev pub spelling_by : Words → Ty → Val → List ℕ
spelling_by words t = λ v. or_text (words t v) (usual_by words t v)

-- no value has another text than that of the notation
abbrev pub no_words : Words
no_words t v = None

-- a value of a type, by the notation alone
abbrev pub spelling : Ty → Val → List ℕ
spelling = usual_by no_words

abbrev pub field_spellings : FieldsKind → Fields → Vals → List (List ℕ)
field_spellings = fields_by no_words

abbrev pub bearing_spelling : CasesKind → Cases → ℕ → Val → List ℕ
bearing_spelling = bearing_by no_words
