-- The tokens that a tree is printed as, a line a production (WIT.md, "Packages and Worlds").
use Rattle.std.specs.Prelude.{ℕ, List, [], ◌∷◌, ◌++◌, Option, Some, None}
use Rattle.std.specs.List.{flat_map}
use Rattle.cm_wit_tokens.specs.declared.keyword.Keyword.{Keyword}
use Rattle.cm_wit_tokens.specs.declared.keyword.Keyword.TheVariants as word
use Rattle.cm_wit_tokens.specs.declared.operator.Operator.{Operator}
use Rattle.cm_wit_tokens.specs.declared.operator.Operator.TheVariants as operator
use Rattle.cm_wit_tokens.specs.declared.token.Form.{Form}
use Rattle.cm_wit_tokens.specs.declared.token.Form.TheVariants as form
use Rattle.cm_wit_reading.specs.declared.types.Primitive.{Primitive}
use Rattle.cm_wit_reading.specs.declared.types.Primitive.TheVariants as primitive_is
use Rattle.cm_wit_reading.specs.Types.{Ty, Tys, primitive, named, borrow, list, fixed_list, option}
use Rattle.cm_wit_reading.specs.Types.{tuple, plain_result, ok_result, error_result, result}
use Rattle.cm_wit_reading.specs.Types.{no_types, types}
use Rattle.cm_wit_reading.specs.Signatures.{Typed, Func, Path, local, foreign}
use Rattle.cm_wit_reading.specs.Trees.{UsedName, Case, ResourceFunc, method, static, constructor}
use Rattle.cm_wit_reading.specs.Trees.{TypeDef, alias, record_of, variant, enum, flags, resource}
use Rattle.cm_wit_reading.specs.Trees.{InterfaceItem, uses, defines, has_func, Interface}
use Rattle.cm_wit_reading.specs.Trees.{WorldExtern, interface_at, named_func, WorldItem, imports}
use Rattle.cm_wit_reading.specs.Trees.{exports, World, FileItem, interface, world, File}

-- ---- single tokens and lists

abbrev pub mark : Operator → List Form
mark o = form.Operator o ∷ []

abbrev pub keyword : Keyword → List Form
keyword k = form.Keyword k ∷ []

abbrev pub name_tokens : List ℕ → List Form
name_tokens name = form.Identifier name ∷ []

-- things one behind the other, each behind a comma
abbrev pub behind_commas : {A : Type 0} → (A → List Form) → List A → List Form
behind_commas tokens xs = flat_map (λ x. mark operator.Comma ++ tokens x) xs

-- things with commas between them
abbrev pub with_commas : {A : Type 0} → (A → List Form) → List A → List Form
with_commas tokens [] = []
with_commas tokens (x ∷ xs) = tokens x ++ behind_commas tokens xs

-- ---- types

abbrev pub primitive_keyword : Primitive → Keyword
primitive_keyword primitive_is.Bool = word.Bool
primitive_keyword primitive_is.S8 = word.S8
primitive_keyword primitive_is.S16 = word.S16
primitive_keyword primitive_is.S32 = word.S32
primitive_keyword primitive_is.S64 = word.S64
primitive_keyword primitive_is.U8 = word.U8
primitive_keyword primitive_is.U16 = word.U16
primitive_keyword primitive_is.U32 = word.U32
primitive_keyword primitive_is.U64 = word.U64
primitive_keyword primitive_is.Char = word.Char
primitive_keyword primitive_is.String = word.String

-- what stands between `<` and `>`
abbrev pub angled : List Form → List Form
angled tokens = mark operator.LessThan ++ (tokens ++ mark operator.GreaterThan)

abbrev mutual
  pub type_tokens : Ty → List Form
  type_tokens (primitive p) = keyword (primitive_keyword p)
  type_tokens (named t) = name_tokens t
  type_tokens (borrow r) = keyword word.Borrow ++ angled (name_tokens r)
  type_tokens (list t) = keyword word.List ++ angled (type_tokens t)
  type_tokens (fixed_list t n) =
      keyword word.List ++ (mark operator.LessThan ++ (type_tokens t
      ++ (mark operator.Comma ++ (form.Integer n ∷ mark operator.GreaterThan))))
  type_tokens (option t) = keyword word.Option ++ angled (type_tokens t)
  type_tokens (tuple ts) = keyword word.Tuple ++ angled (types_tokens ts)
  type_tokens plain_result = keyword word.Result
  type_tokens (ok_result t) = keyword word.Result ++ angled (type_tokens t)
  type_tokens (error_result t) =
      keyword word.Result
      ++ angled (mark operator.Underscore ++ (mark operator.Comma ++ type_tokens t))
  type_tokens (result t u) =
      keyword word.Result ++ (mark operator.LessThan ++ (type_tokens t
      ++ (mark operator.Comma ++ (type_tokens u ++ mark operator.GreaterThan))))

  pub types_tokens : Tys → List Form
  types_tokens no_types = []
  types_tokens (types t ts) = type_tokens t ++ further_types_tokens ts

  pub further_types_tokens : Tys → List Form
  further_types_tokens no_types = []
  further_types_tokens (types t ts) =
      mark operator.Comma ++ (type_tokens t ++ further_types_tokens ts)

-- ---- functions and paths

abbrev pub typed_tokens : Typed → List Form
typed_tokens x = name_tokens x.0 ++ (mark operator.Colon ++ type_tokens x.1)

abbrev pub params_tokens : List Typed → List Form
params_tokens xs =
    mark operator.LeftParenthesis
    ++ (with_commas typed_tokens xs ++ mark operator.RightParenthesis)

abbrev pub result_tokens : Option Ty → List Form
result_tokens None = []
result_tokens (Some t) = mark operator.Arrow ++ type_tokens t

-- parameters and result
abbrev pub signature_tokens : Func → List Form
signature_tokens f = params_tokens f.params ++ result_tokens f.result

abbrev pub func_tokens : Func → List Form
func_tokens f = keyword word.Func ++ signature_tokens f

abbrev pub version_tokens : Option (List ℕ) → List Form
version_tokens None = []
version_tokens (Some version) = mark operator.At ++ form.Version version ∷ []

abbrev pub path_tokens : Path → List Form
path_tokens (local name) = name_tokens name
path_tokens (foreign namespace pkg name version) =
    name_tokens namespace ++ (mark operator.Colon ++ (name_tokens pkg ++ (mark operator.Slash
    ++ (name_tokens name ++ version_tokens version))))

-- ---- interfaces

abbrev pub new_name_tokens : Option (List ℕ) → List Form
new_name_tokens None = []
new_name_tokens (Some name) = keyword word.As ++ name_tokens name

abbrev pub used_tokens : UsedName → List Form
used_tokens u = name_tokens u.name ++ new_name_tokens u.new_name

abbrev pub case_type_tokens : Option Ty → List Form
case_type_tokens None = []
case_type_tokens (Some t) =
    mark operator.LeftParenthesis ++ (type_tokens t ++ mark operator.RightParenthesis)

abbrev pub case_tokens : Case → List Form
case_tokens c = name_tokens c.name ++ case_type_tokens c.ty

abbrev pub resource_func_tokens : ResourceFunc → List Form
resource_func_tokens (method name f) =
    name_tokens name ++ (mark operator.Colon ++ (func_tokens f ++ mark operator.Semicolon))
resource_func_tokens (static name f) =
    name_tokens name ++ (mark operator.Colon ++ (keyword word.Static
    ++ (func_tokens f ++ mark operator.Semicolon)))
resource_func_tokens (constructor ps) =
    keyword word.Constructor ++ (params_tokens ps ++ mark operator.Semicolon)

-- what stands between braces
abbrev pub braced : List Form → List Form
braced tokens = mark operator.LeftBrace ++ (tokens ++ mark operator.RightBrace)

abbrev pub resource_rest : List ResourceFunc → List Form
resource_rest [] = mark operator.Semicolon
resource_rest (f ∷ fs) = braced (flat_map resource_func_tokens (f ∷ fs))

-- the keyword before a type's name
abbrev pub type_keyword : TypeDef → Keyword
type_keyword (alias t) = word.Type
type_keyword (record_of fs) = word.Record
type_keyword (variant cs) = word.Variant
type_keyword (enum names) = word.Enum
type_keyword (flags names) = word.Flags
type_keyword (resource fs) = word.Resource

-- what stands behind a type's name
abbrev pub def_tokens : TypeDef → List Form
def_tokens (alias t) = mark operator.Equals ++ (type_tokens t ++ mark operator.Semicolon)
def_tokens (record_of fs) = braced (with_commas typed_tokens fs)
def_tokens (variant cs) = braced (with_commas case_tokens cs)
def_tokens (enum names) = braced (with_commas name_tokens names)
def_tokens (flags names) = braced (with_commas name_tokens names)
def_tokens (resource fs) = resource_rest fs

abbrev pub interface_item_tokens : InterfaceItem → List Form
interface_item_tokens (uses u) =
    keyword word.Use ++ (path_tokens u.path ++ (mark operator.Period ++ (mark operator.LeftBrace
    ++ (with_commas used_tokens u.names ++ (mark operator.RightBrace
    ++ mark operator.Semicolon)))))
interface_item_tokens (defines name t) =
    keyword (type_keyword t) ++ (name_tokens name ++ def_tokens t)
interface_item_tokens (has_func name f) =
    name_tokens name ++ (mark operator.Colon ++ (func_tokens f ++ mark operator.Semicolon))

-- behind the word `interface`
abbrev pub interface_tokens : Interface → List Form
interface_tokens x = name_tokens x.name ++ braced (flat_map interface_item_tokens x.items)

-- ---- worlds and files

abbrev pub extern_tokens : WorldExtern → List Form
extern_tokens (interface_at path) = path_tokens path
extern_tokens (named_func name f) = name_tokens name ++ (mark operator.Colon ++ func_tokens f)

abbrev pub world_item_tokens : WorldItem → List Form
world_item_tokens (imports e) =
    keyword word.Import ++ (extern_tokens e ++ mark operator.Semicolon)
world_item_tokens (exports e) =
    keyword word.Export ++ (extern_tokens e ++ mark operator.Semicolon)

-- behind the word `world`
abbrev pub world_tokens : World → List Form
world_tokens x = name_tokens x.name ++ braced (flat_map world_item_tokens x.items)

abbrev pub file_item_tokens : FileItem → List Form
file_item_tokens (interface x) = keyword word.Interface ++ interface_tokens x
file_item_tokens (world x) = keyword word.World ++ world_tokens x

-- the tokens of a file's tree
abbrev pub file_tokens : File → List Form
file_tokens f =
    keyword word.Package ++ (name_tokens f.namespace ++ (mark operator.Colon
    ++ (name_tokens f.pkg ++ (version_tokens f.version ++ (mark operator.Semicolon
    ++ flat_map file_item_tokens f.items)))))
