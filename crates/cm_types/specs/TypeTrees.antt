-- The types that the code's trees are.
use Rattle.std.specs.Prelude.{ℕ, List, [], ◌∷◌, map, Option, Some, None, codes}
use Rattle.std.specs.declared.alloc.Global.{Global}
use Rattle.std.specs.declared.rc.Rc.{Rc}
use Rattle.cm_types.specs.Types.{Ty, Fields, Cases, bool, signed, unsigned, char, string, list}
use Rattle.cm_types.specs.Types.{fixed_list, fields, cases, flags, own, borrow, no_fields, field}
use Rattle.cm_types.specs.Types.{no_cases, plain, carrying, record_type, tuple_type, variant_type}
use Rattle.cm_types.specs.Types.{enum_type, option_type, result_type, bits_8, bits_16, bits_32}
use Rattle.cm_types.specs.Types.{bits_64}
use Rattle.cm_types.specs.declared.type_trees.TypeNode.{TypeNode}
use Rattle.cm_types.specs.declared.type_trees.Field.{Field}
use Rattle.cm_types.specs.declared.type_trees.Case.{Case}
use Rattle.cm_types.specs.declared.type_trees.TypeNode.TheOpen as node
use Rattle.cm_types.specs.declared.type_trees.TypeNode.TheFolds.{fold-TypeNode, fold-Case}
use Rattle.cm_types.specs.declared.type_trees.TypeNode.TheFolds.{fold-Field}

-- a label with a type, and one with a payload or none
abbrev pub TypedLabel : Type 0
TypedLabel = List ℕ × Ty

abbrev pub CaseOf : Type 0
CaseOf = List ℕ × Option Ty

-- the fields of a record, from a list
abbrev pub fields_from : List TypedLabel → Fields
fields_from [] = no_fields
fields_from (f ∷ fs) = field f.0 f.1 (fields_from fs)

-- the fields of a tuple, which have no labels
abbrev pub parts_from : List Ty → Fields
parts_from [] = no_fields
parts_from (t ∷ ts) = field [] t (parts_from ts)

-- a case in front of others
abbrev pub case_before : List ℕ → Option Ty → Cases → Cases
case_before l None cs = plain l cs
case_before l (Some t) cs = carrying l t cs

-- the cases of a variant, from a list
abbrev pub cases_from : List CaseOf → Cases
cases_from [] = no_cases
cases_from (c ∷ cs) = case_before c.0 c.1 (cases_from cs)

-- the cases of an enum, from their labels
abbrev pub plain_from : List (List ℕ) → Cases
plain_from [] = no_cases
plain_from (l ∷ ls) = plain l (plain_from ls)

-- what is shared, if there is anything
abbrev pub shared_content : Option (Rc Ty Global) → Option Ty
shared_content None = None
shared_content (Some b) = Some b.value

-- a node, given the types of the nodes below it
abbrev pub type_step : node.TypeNode-F Ty CaseOf TypedLabel → Ty
type_step node.Bool = bool
type_step node.S8 = signed bits_8
type_step node.U8 = unsigned bits_8
type_step node.S16 = signed bits_16
type_step node.U16 = unsigned bits_16
type_step node.S32 = signed bits_32
type_step node.U32 = unsigned bits_32
type_step node.S64 = signed bits_64
type_step node.U64 = unsigned bits_64
type_step node.Char = char
type_step node.String = string
type_step (node.List t) = list t.value
type_step (node.FixedList t n) = fixed_list t.value n
type_step (node.Record fs) = fields record_type (fields_from fs.value.items)
type_step (node.Tuple ts) = fields tuple_type (parts_from ts.value.items)
type_step (node.Variant cs) = cases variant_type (cases_from cs.value.items)
type_step (node.Enum ls) = cases enum_type (plain_from ls.value.items)
type_step (node.Flags ls) = flags ls.value.items
type_step (node.Option t) =
    cases option_type (plain (codes "none") (carrying (codes "some") t.value no_cases))
type_step (node.Result ok error) =
    cases result_type
    (case_before (codes "ok") (shared_content ok)
    (case_before (codes "error") (shared_content error) no_cases))
type_step (node.Own r) = own r
type_step (node.Borrow r) = borrow r

abbrev pub case_step : node.Case-F Ty CaseOf TypedLabel → CaseOf
case_step c = (c.label, c.payload)

abbrev pub field_step : node.Field-F Ty CaseOf TypedLabel → TypedLabel
field_step f = (f.label, f.ty)

-- the type that a tree is
abbrev pub type_of : TypeNode → Ty
type_of = fold-TypeNode Ty CaseOf TypedLabel type_step case_step field_step

-- a case, and a field, of the code
abbrev pub case_of : Case → CaseOf
case_of = fold-Case Ty CaseOf TypedLabel type_step case_step field_step

abbrev pub field_of : Field → TypedLabel
field_of = fold-Field Ty CaseOf TypedLabel type_step case_step field_step

-- lists of them
abbrev pub fields_of : List Field → Fields
fields_of fs = fields_from (map field_of fs)

abbrev pub parts_of : List TypeNode → Fields
parts_of ts = parts_from (map type_of ts)

abbrev pub cases_of : List Case → Cases
cases_of cs = cases_from (map case_of cs)

-- the type that a shared node of the code is, if there is one
abbrev pub shared_payload : Option (Rc TypeNode Global) → Option Ty
shared_payload None = None
shared_payload (Some b) = Some (type_of b.value)
