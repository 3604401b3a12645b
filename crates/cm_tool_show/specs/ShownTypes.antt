-- The text that shows a type (this project's own choice): as in WIT (WIT.md, "Types"), with what it
-- holds in place.
use Rattle.std.specs.Prelude.{ℕ, List, [], ◌∷◌, ◌++◌, map, codes}
use Rattle.std.specs.Fmt.{decimal}
use Rattle.cm_types.specs.Types.{Ty, Fields, Cases, bool, signed, unsigned, char, string}
use Rattle.cm_types.specs.Types.{list, fixed_list, fields, cases, flags, own, borrow, no_fields}
use Rattle.cm_types.specs.Types.{field, no_cases, plain, carrying, record_type, tuple_type}
use Rattle.cm_types.specs.Types.{variant_type, enum_type, option_type, result_type, bits_8}
use Rattle.cm_types.specs.Types.{bits_16, bits_32, bits_64}
use Rattle.cm_tool_show.specs.Pieces.{Piece, chars, number_of}
use Rattle.cm_tool_show.specs.Lists.{with_commas}

-- pieces between these words
abbrev pub between : List ℕ → List ℕ → List Piece → List Piece
between first last ps = chars first ∷ (ps ++ chars last ∷ [])

-- a label
abbrev pub label_pieces : List ℕ → List Piece
label_pieces l = chars l ∷ []

-- the payloads of a result: of its first case, and of its second
abbrev pub result_pieces : List (List Piece) → List (List Piece) → List Piece
result_pieces [] [] = chars (codes "result") ∷ []
result_pieces [] (error ∷ _) = between (codes "result<_, ") (codes ">") error
result_pieces (ok ∷ _) [] = between (codes "result<") (codes ">") ok
result_pieces (ok ∷ _) (error ∷ _) =
    between (codes "result<") (codes ">") (ok ++ chars (codes ", ") ∷ error)

abbrev mutual
  -- a type
  pub type_pieces : Ty → List Piece
  type_pieces bool = chars (codes "bool") ∷ []
  type_pieces (signed bits_8) = chars (codes "s8") ∷ []
  type_pieces (signed bits_16) = chars (codes "s16") ∷ []
  type_pieces (signed bits_32) = chars (codes "s32") ∷ []
  type_pieces (signed bits_64) = chars (codes "s64") ∷ []
  type_pieces (unsigned bits_8) = chars (codes "u8") ∷ []
  type_pieces (unsigned bits_16) = chars (codes "u16") ∷ []
  type_pieces (unsigned bits_32) = chars (codes "u32") ∷ []
  type_pieces (unsigned bits_64) = chars (codes "u64") ∷ []
  type_pieces char = chars (codes "char") ∷ []
  type_pieces string = chars (codes "string") ∷ []
  type_pieces (list t) = between (codes "list<") (codes ">") (type_pieces t)
  type_pieces (fixed_list t n) = between (codes "list<") (codes ">")
      (type_pieces t ++ chars (codes ", ") ∷ chars (decimal n) ∷ [])
  type_pieces (fields record_type fs) =
      between (codes "record{") (codes "}") (with_commas (field_pieces fs))
  type_pieces (fields tuple_type fs) =
      between (codes "tuple<") (codes ">") (with_commas (part_pieces fs))
  type_pieces (cases variant_type cs) =
      between (codes "variant{") (codes "}") (with_commas (case_pieces cs))
  type_pieces (cases enum_type cs) =
      between (codes "enum{") (codes "}") (with_commas (case_pieces cs))
  type_pieces (cases option_type cs) =
      between (codes "option<") (codes ">") (with_commas (payload_pieces cs))
  type_pieces (cases result_type cs) = two_case_pieces cs
  type_pieces (flags ls) =
      between (codes "flags{") (codes "}") (with_commas (map label_pieces ls))
  type_pieces (own r) = between (codes "own<#") (codes ">") (number_of r ∷ [])
  type_pieces (borrow r) = between (codes "borrow<#") (codes ">") (number_of r ∷ [])

  -- the fields of a record, or the parameters of a function: labels with their types
  pub field_pieces : Fields → List (List Piece)
  field_pieces no_fields = []
  field_pieces (field l t fs) =
      (chars l ∷ chars (codes ": ") ∷ type_pieces t) ∷ field_pieces fs

  -- the fields of a tuple, which have no labels
  pub part_pieces : Fields → List (List Piece)
  part_pieces no_fields = []
  part_pieces (field l t fs) = type_pieces t ∷ part_pieces fs

  -- the cases of a variant or an enum: labels, with the payloads of those that carry one
  pub case_pieces : Cases → List (List Piece)
  case_pieces no_cases = []
  case_pieces (plain l cs) = label_pieces l ∷ case_pieces cs
  case_pieces (carrying l t cs) =
      (chars l ∷ between (codes "(") (codes ")") (type_pieces t)) ∷ case_pieces cs

  -- the payloads of cases
  pub payload_pieces : Cases → List (List Piece)
  payload_pieces no_cases = []
  payload_pieces (plain l cs) = payload_pieces cs
  payload_pieces (carrying l t cs) = type_pieces t ∷ payload_pieces cs

  -- a result, by its two cases
  pub two_case_pieces : Cases → List Piece
  two_case_pieces no_cases = []
  two_case_pieces (plain l cs) = result_pieces [] (payload_pieces cs)
  two_case_pieces (carrying l t cs) = result_pieces (type_pieces t ∷ []) (payload_pieces cs)
