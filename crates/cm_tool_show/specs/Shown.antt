-- The text that shows a signature (this project's own choice): a line for each import and export,
-- and for each item of an instance.
use Rattle.std.specs.Prelude.{ℕ, List, [], ◌∷◌, ◌++◌, codes, Option, Some, None}
use Rattle.std.specs.List.{flat_map}
use Rattle.cm_types.specs.declared.resource.ResourceId.{ResourceId}
use Rattle.cm_types.specs.Types.{Ty, FuncTy}
use Rattle.cm_types.specs.Signatures.{ItemTy, func_item, equal_type, equal_resource}
use Rattle.cm_types.specs.Signatures.{fresh_resource, ExternTy, NamedExtern, SignatureTy, func}
use Rattle.cm_types.specs.Signatures.{instance}
use Rattle.cm_tool_show.specs.Pieces.{Piece, chars, number_of, text_of}
use Rattle.cm_tool_show.specs.Lists.{with_commas}
use Rattle.cm_tool_show.specs.ShownTypes.{between, field_pieces, type_pieces}

-- ---- functions

abbrev pub answer_pieces : Option Ty → List Piece
answer_pieces None = []
answer_pieces (Some t) = chars (codes " -> ") ∷ type_pieces t

abbrev pub func_pieces : FuncTy → List Piece
func_pieces f = between (codes "(") (codes ")") (with_commas (field_pieces f.params))
    ++ answer_pieces f.result

-- ---- imports, exports and items

-- a resource that is an item
abbrev pub resource_pieces : ResourceId → List Piece
resource_pieces r = chars (codes "resource#") ∷ number_of r ∷ []

-- a line: what it begins with, a name, a blank, and more
abbrev pub line : List ℕ → List ℕ → List Piece → List Piece
line word name ps = chars word ∷ chars name ∷ chars (codes " ") ∷ (ps ++ chars (codes "\n") ∷ [])

-- the line of an item of an instance
abbrev pub item_line : List ℕ → ItemTy → List Piece
item_line name (func_item f) = line (codes "  func ") name (func_pieces f)
item_line name (equal_type t) = line (codes "  type ") name (type_pieces t)
item_line name (equal_resource r) = line (codes "  type ") name (resource_pieces r)
item_line name (fresh_resource r) = line (codes "  type ") name (resource_pieces r)

-- what an import or an export is, as its own line says
abbrev pub extern_pieces : ExternTy → List Piece
extern_pieces (func f) = chars (codes "func ") ∷ func_pieces f
extern_pieces (instance items) = chars (codes "instance") ∷ []

-- the lines of an import or an export, which begin with this word
abbrev pub extern_lines : List ℕ → List ℕ → ExternTy → List Piece
extern_lines word name (func f) = line word name (chars (codes "func ") ∷ func_pieces f)
extern_lines word name (instance items) =
    line word name (chars (codes "instance") ∷ [])
    ++ flat_map (λ i. item_line i.name i.desc) items

abbrev pub externs_lines : List ℕ → List NamedExtern → List Piece
externs_lines word es = flat_map (λ e. extern_lines word e.name e.desc) es

-- the lines of a signature: the imports, then the exports, each in order
abbrev pub signature_lines : SignatureTy → List Piece
signature_lines s =
    externs_lines (codes "import ") s.imports ++ externs_lines (codes "export ") s.exports

-- The text that shows a signature.
abbrev pub shown : SignatureTy → List ℕ
shown s = text_of (signature_lines s)
