-- The text that prints a file: a declaration a line, two blanks a level, and `%` before a name that
-- is a keyword (this layout is this project's own choice).
use Rattle.std.specs.Prelude.{ℕ, zero, suc, List, [], ◌∷◌, ◌++◌, Option, Some, None, codes}
use Rattle.std.specs.Fmt.{decimal}
use Rattle.std.specs.List.{flat_map}
use Rattle.std.specs.Option.{option_map_or}
use Rattle.cm_wit_tokens.specs.Keywords.{keyword_of}
use Rattle.cm_wit_reading.specs.declared.types.Primitive.{Primitive}
use Rattle.cm_wit_reading.specs.declared.types.Primitive.TheVariants as primitive_is
use Rattle.cm_wit_reading.specs.Types.{Ty, Tys, primitive, named, borrow, list, fixed_list, option}
use Rattle.cm_wit_reading.specs.Types.{tuple, plain_result, ok_result, error_result, result}
use Rattle.cm_wit_reading.specs.Types.{no_types, types}
use Rattle.cm_wit_reading.specs.Signatures.{Typed, Func, Path, local, foreign}
use Rattle.cm_wit_reading.specs.Trees.{UsedName, Case, ResourceFunc, method, static, constructor}
use Rattle.cm_wit_reading.specs.Trees.{TypeDef, alias, record_of, variant, enum, flags, resource}
use Rattle.cm_wit_reading.specs.Trees.{InterfaceItem, uses, defines, has_func, Interface}
use Rattle.cm_wit_reading.specs.Trees.{WorldExtern, interface_at, named_func, WorldItem, imports}
use Rattle.cm_wit_reading.specs.Trees.{exports, World, FileItem, interface, world, File}

-- ---- names and lists

abbrev pub name_text : List ℕ → List ℕ
name_text name = option_map_or (λ k. codes "%" ++ name) (keyword_of name) name

-- things one behind the other, each behind a comma
abbrev pub behind_commas : {A : Type 0} → (A → List ℕ) → List A → List ℕ
behind_commas text xs = flat_map (λ x. codes ", " ++ text x) xs

-- things with commas between them
abbrev pub with_commas : {A : Type 0} → (A → List ℕ) → List A → List ℕ
with_commas text [] = []
with_commas text (x ∷ xs) = text x ++ behind_commas text xs

-- what stands before the n-th of some things, from 0
abbrev pub separator : ℕ → List ℕ
separator zero = []
separator (suc n) = codes ", "

-- ---- types

abbrev pub primitive_text : Primitive → List ℕ
primitive_text primitive_is.Bool = codes "bool"
primitive_text primitive_is.S8 = codes "s8"
primitive_text primitive_is.S16 = codes "s16"
primitive_text primitive_is.S32 = codes "s32"
primitive_text primitive_is.S64 = codes "s64"
primitive_text primitive_is.U8 = codes "u8"
primitive_text primitive_is.U16 = codes "u16"
primitive_text primitive_is.U32 = codes "u32"
primitive_text primitive_is.U64 = codes "u64"
primitive_text primitive_is.Char = codes "char"
primitive_text primitive_is.String = codes "string"

abbrev mutual
  pub type_text : Ty → List ℕ
  type_text (primitive p) = primitive_text p
  type_text (named t) = name_text t
  type_text (borrow r) = codes "borrow<" ++ (name_text r ++ codes ">")
  type_text (list t) = codes "list<" ++ (type_text t ++ codes ">")
  type_text (fixed_list t n) =
      codes "list<" ++ (type_text t ++ (codes ", " ++ (decimal n ++ codes ">")))
  type_text (option t) = codes "option<" ++ (type_text t ++ codes ">")
  type_text (tuple ts) = codes "tuple<" ++ (types_text ts ++ codes ">")
  type_text plain_result = codes "result"
  type_text (ok_result t) = codes "result<" ++ (type_text t ++ codes ">")
  type_text (error_result t) = codes "result<_, " ++ (type_text t ++ codes ">")
  type_text (result t u) =
      codes "result<" ++ (type_text t ++ (codes ", " ++ (type_text u ++ codes ">")))

  pub types_text : Tys → List ℕ
  types_text no_types = []
  types_text (types t ts) = type_text t ++ further_types_text ts

  pub further_types_text : Tys → List ℕ
  further_types_text no_types = []
  further_types_text (types t ts) = codes ", " ++ (type_text t ++ further_types_text ts)

-- ---- functions and paths

abbrev pub typed_text : Typed → List ℕ
typed_text x = name_text x.0 ++ (codes ": " ++ type_text x.1)

abbrev pub params_text : List Typed → List ℕ
params_text xs = codes "(" ++ (with_commas typed_text xs ++ codes ")")

abbrev pub result_text : Option Ty → List ℕ
result_text None = []
result_text (Some t) = codes " -> " ++ type_text t

abbrev pub func_text : Func → List ℕ
func_text f = codes "func" ++ (params_text f.params ++ result_text f.result)

abbrev pub version_text : Option (List ℕ) → List ℕ
version_text None = []
version_text (Some version) = codes "@" ++ version

abbrev pub path_text : Path → List ℕ
path_text (local name) = name_text name
path_text (foreign namespace pkg name version) =
    name_text namespace ++ (codes ":" ++ (name_text pkg ++ (codes "/" ++ (name_text name
    ++ version_text version))))

-- ---- interfaces

abbrev pub used_text : UsedName → List ℕ
used_text u =
    name_text u.name ++ option_map_or (λ new. codes " as " ++ name_text new) u.new_name []

abbrev pub case_text : Case → List ℕ
case_text c =
    name_text c.name ++ option_map_or (λ t. codes "(" ++ (type_text t ++ codes ")")) c.ty []

abbrev pub resource_func_line : ResourceFunc → List ℕ
resource_func_line (method name f) =
    codes "    " ++ (name_text name ++ (codes ": " ++ (func_text f ++ codes ";\n")))
resource_func_line (static name f) =
    codes "    " ++ (name_text name ++ (codes ": static " ++ (func_text f ++ codes ";\n")))
resource_func_line (constructor ps) =
    codes "    constructor" ++ (params_text ps ++ codes ";\n")

-- a type of parts between braces, on one line
abbrev pub braced : {A : Type 0} → List ℕ → List ℕ → (A → List ℕ) → List A → List ℕ
braced head name text xs =
    head ++ (name_text name ++ (codes " { " ++ (with_commas text xs ++ codes " }\n")))

abbrev pub resource_rest : List ResourceFunc → List ℕ
resource_rest [] = codes ";\n"
resource_rest (f ∷ fs) = codes " {\n" ++ (flat_map resource_func_line (f ∷ fs) ++ codes "  }\n")

abbrev pub type_def_lines : List ℕ → TypeDef → List ℕ
type_def_lines name (alias t) =
    codes "  type " ++ (name_text name ++ (codes " = " ++ (type_text t ++ codes ";\n")))
type_def_lines name (record_of fs) = braced (codes "  record ") name typed_text fs
type_def_lines name (variant cs) = braced (codes "  variant ") name case_text cs
type_def_lines name (enum names) = braced (codes "  enum ") name name_text names
type_def_lines name (flags names) = braced (codes "  flags ") name name_text names
type_def_lines name (resource fs) = codes "  resource " ++ (name_text name ++ resource_rest fs)

abbrev pub interface_item_lines : InterfaceItem → List ℕ
interface_item_lines (uses u) = codes "  use " ++ (path_text u.path ++ (codes ".{"
    ++ (with_commas used_text u.names ++ codes "};\n")))
interface_item_lines (defines name t) = type_def_lines name t
interface_item_lines (has_func name f) =
    codes "  " ++ (name_text name ++ (codes ": " ++ (func_text f ++ codes ";\n")))

abbrev pub interface_lines : Interface → List ℕ
interface_lines x = codes "interface " ++ (name_text x.name ++ (codes " {\n"
    ++ (flat_map interface_item_lines x.items ++ codes "}\n")))

-- ---- worlds and files

abbrev pub extern_text : WorldExtern → List ℕ
extern_text (interface_at path) = path_text path
extern_text (named_func name f) = name_text name ++ (codes ": " ++ func_text f)

abbrev pub world_item_line : WorldItem → List ℕ
world_item_line (imports e) = codes "  import " ++ (extern_text e ++ codes ";\n")
world_item_line (exports e) = codes "  export " ++ (extern_text e ++ codes ";\n")

abbrev pub world_lines : World → List ℕ
world_lines x = codes "world " ++ (name_text x.name ++ (codes " {\n"
    ++ (flat_map world_item_line x.items ++ codes "}\n")))

abbrev pub file_item_lines : FileItem → List ℕ
file_item_lines (interface x) = interface_lines x
file_item_lines (world x) = world_lines x

abbrev pub file_text : File → List ℕ
file_text f = codes "package " ++ (name_text f.namespace ++ (codes ":" ++ (name_text f.pkg
    ++ (version_text f.version ++ (codes ";\n" ++ flat_map file_item_lines f.items)))))
