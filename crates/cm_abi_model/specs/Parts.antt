-- What of a value lies elsewhere in memory, and what is counted (CanonicalABI.md, "Storing" of
-- lists and strings; the counts are this project's own choice).
use Rattle.std.specs.Prelude.{ℕ, zero, suc, ◌+◌, ◌<◌, ◌^◌, ⊤, List, [], ◌∷◌, ◌++◌}
use Rattle.cm_types.specs.Types.{Ty, Fields, Cases, list, fixed_list, fields, cases, no_fields}
use Rattle.cm_types.specs.Types.{field, no_cases, plain, carrying}
use Rattle.cm_types.specs.Values.{Val, Vals, no_vals, val, truth, signed_number, number, scalar}
use Rattle.cm_types.specs.Values.{text, elements, parts, bare, bearing, flag_set, handle, count_of}
use Rattle.cm_layout.specs.Sizes.{align_of, size_of}

-- a part of a value, which lies elsewhere: a string of these scalars, or so many elements of one
-- size and alignment
pub data Part : Type 0 where
  text_part : List ℕ → Part
  element_part : ℕ → ℕ → ℕ → Part

-- the parts of each value, one after another
abbrev pub parts_each : (Val → List Part) → Vals → List Part
parts_each P no_vals = []
parts_each P (val v vs) = P v ++ parts_each P vs

abbrev mutual
  -- the parts of a value of a type, in reading order, a list before its elements
  pub parts_in : Ty → Val → List Part
  parts_in (list t) (elements vs) =
      element_part (count_of vs) (size_of t) (align_of t) ∷ parts_each (parts_in t) vs
  parts_in (fixed_list t n) (parts vs) = parts_each (parts_in t) vs
  parts_in (fields k fs) (parts vs) = parts_in_fields fs vs
  parts_in (cases k cs) (bearing i v) = parts_in_payload cs i v
  parts_in t (text cs) = text_part cs ∷ []
  parts_in t v = []

  -- those of fields
  pub parts_in_fields : Fields → Vals → List Part
  parts_in_fields no_fields vs = []
  parts_in_fields (field l t fs) no_vals = []
  parts_in_fields (field l t fs) (val v vs) = parts_in t v ++ parts_in_fields fs vs

  -- those of what the case of this number carries
  pub parts_in_payload : Cases → ℕ → Val → List Part
  parts_in_payload no_cases i v = []
  parts_in_payload (plain l cs) zero v = []
  parts_in_payload (plain l cs) (suc i) v = parts_in_payload cs i v
  parts_in_payload (carrying l t cs) zero v = parts_in t v
  parts_in_payload (carrying l t cs) (suc i) v = parts_in_payload cs i v

abbrev mutual
  -- how many parts a value has: its strings and its lists
  pub part_count : Val → ℕ
  part_count (text cs) = 1
  part_count (elements vs) = 1 + part_count_each vs
  part_count (parts vs) = part_count_each vs
  part_count (bearing i v) = part_count v
  part_count (truth b) = 0
  part_count (signed_number z) = 0
  part_count (number n) = 0
  part_count (scalar c) = 0
  part_count (bare i) = 0
  part_count (flag_set n) = 0
  part_count (handle h) = 0

  pub part_count_each : Vals → ℕ
  part_count_each no_vals = 0
  part_count_each (val v vs) = part_count v + part_count_each vs

abbrev mutual
  -- how many handles a value has
  pub handle_count : Val → ℕ
  handle_count (handle h) = 1
  handle_count (elements vs) = handle_count_each vs
  handle_count (parts vs) = handle_count_each vs
  handle_count (bearing i v) = handle_count v
  handle_count (truth b) = 0
  handle_count (signed_number z) = 0
  handle_count (number n) = 0
  handle_count (scalar c) = 0
  handle_count (text cs) = 0
  handle_count (bare i) = 0
  handle_count (flag_set n) = 0

  pub handle_count_each : Vals → ℕ
  handle_count_each no_vals = 0
  handle_count_each (val v vs) = handle_count v + handle_count_each vs

abbrev mutual
  -- the numbers of the cases in a value fit 32 bits
  pub CasesFit : Val → Type 0
  CasesFit (bare i) = i < 2 ^ 32
  CasesFit (bearing i v) = (i < 2 ^ 32) × CasesFit v
  CasesFit (elements vs) = AllCasesFit vs
  CasesFit (parts vs) = AllCasesFit vs
  CasesFit (truth b) = ⊤
  CasesFit (signed_number z) = ⊤
  CasesFit (number n) = ⊤
  CasesFit (scalar c) = ⊤
  CasesFit (text cs) = ⊤
  CasesFit (flag_set n) = ⊤
  CasesFit (handle h) = ⊤

  pub AllCasesFit : Vals → Type 0
  AllCasesFit no_vals = ⊤
  AllCasesFit (val v vs) = CasesFit v × AllCasesFit vs
