-- Interfaces and their items (WIT.md, "Item: `interface`").
use Rattle.std.specs.Prelude.{ℕ, Bool, List, [], Some, None, if◌then◌else◌}
use Rattle.cm_wit_tokens.specs.declared.operator.Operator.TheVariants as operator
use Rattle.cm_wit_tokens.specs.Forms.{is_operator}
use Rattle.cm_wit_tokens.specs.Grammar.{Grammar, done, ◌>>=◌, token, chosen}
use Rattle.cm_wit_tokens.specs.Lists.{items, members}
use Rattle.cm_wit_tokens.specs.Parts.{expect, identifier}
use Rattle.cm_wit_reading.specs.Signatures.{Func, Typed, params, path}
use Rattle.cm_wit_reading.specs.declared.heads.TypeHead.TheVariants as plain_is
use Rattle.cm_wit_reading.specs.Interfaces.{braced, def_rest, ended, func_rest, is_static}
use Rattle.cm_wit_reading.specs.Interfaces.{used_name}
use Rattle.cm_wit_reading.specs.Trees.{constructor, method, static, Use, UsedName}
use Rattle.cm_wit_projects_reading.specs.declared.heads.TypeHead.{TypeHead}
use Rattle.cm_wit_projects_reading.specs.declared.heads.TypeHead.TheVariants as type_is
use Rattle.cm_wit_projects_reading.specs.declared.heads.ItemHead.{ItemHead}
use Rattle.cm_wit_projects_reading.specs.declared.heads.ItemHead.TheVariants as item_is
use Rattle.cm_wit_projects_reading.specs.declared.heads.MethodHead.{MethodHead}
use Rattle.cm_wit_projects_reading.specs.declared.heads.MethodHead.TheVariants as method_is
use Rattle.cm_wit_projects_reading.specs.Gates.{gated}
use Rattle.cm_wit_projects_reading.specs.Heads.{item_head, method_head}
use Rattle.cm_wit_projects_reading.specs.LeftOut.{or_left_out}
use Rattle.cm_wit_projects_reading.specs.Trees.{Gated, Kept, kept, left_out, ResourceItem, has}
use Rattle.cm_wit_projects_reading.specs.Trees.{lacks, TypeItem, def, resource, InterfaceItem, uses}
use Rattle.cm_wit_projects_reading.specs.Trees.{defines, has_func, Interface}

-- ---- used names

-- [used-name {`,` used-name} [`,`]] (that there may be none is this project's own choice)
abbrev pub used_names : Grammar (List UsedName)
used_names =
    chosen (is_operator operator.RightBrace) (done []) (items operator.RightBrace used_name)

-- path `.` `{` used-names `}` `;`
abbrev pub use_rest : Grammar Use
use_rest =
    path >>= λ p. expect operator.Period >>= λ _. ended (braced used_names) >>= λ names.
    done (record { path = p; names = names })

-- ---- functions

-- `func` params [`->` ty] `;`
abbrev pub kept_func : Grammar (Kept Func)
kept_func = or_left_out operator.Semicolon func_rest

-- ---- resources

-- a function of a resource with its name, static or not
abbrev pub named_func : List ℕ → Bool → Kept Func → ResourceItem
named_func name s (kept f) = has (if s then static name f else method name f)
named_func name s (left_out place) = lacks (Some name) place

abbrev pub built : Kept (List Typed) → ResourceItem
built (kept ps) = has (constructor ps)
built (left_out place) = lacks None place

-- a function of a resource, by its first token
abbrev pub method_rest : MethodHead → Grammar ResourceItem
method_rest method_is.Constructor =
    or_left_out operator.Semicolon (ended params) >>= λ ps. done (built ps)
method_rest (method_is.Named name) =
    expect operator.Colon >>= λ _. is_static >>= λ s. kept_func >>= λ f.
    done (named_func name s f)

abbrev pub resource_item : Grammar ResourceItem
resource_item = token method_head >>= λ h. method_rest h

-- `;`, or the functions in braces
abbrev pub resource_rest : Grammar (List (Gated ResourceItem))
resource_rest =
    chosen (is_operator operator.Semicolon)
    (expect operator.Semicolon >>= λ _. done [])
    (braced (members (gated (λ _. resource_item))))

-- ---- items

-- what stands behind a type's name, by the keyword before it
abbrev pub type_rest : TypeHead → Grammar TypeItem
type_rest type_is.Type =
    or_left_out operator.Semicolon (def_rest plain_is.Type) >>= λ t. done (def t)
type_rest type_is.Record =
    or_left_out operator.RightBrace (def_rest plain_is.Record) >>= λ t. done (def t)
type_rest type_is.Variant =
    or_left_out operator.RightBrace (def_rest plain_is.Variant) >>= λ t. done (def t)
type_rest type_is.Enum = def_rest plain_is.Enum >>= λ t. done (def (kept t))
type_rest type_is.Flags = def_rest plain_is.Flags >>= λ t. done (def (kept t))
type_rest type_is.Resource = resource_rest >>= λ fs. done (resource fs)

-- an item, by its first token
abbrev pub item_rest : ItemHead → Grammar InterfaceItem
item_rest item_is.Use = use_rest >>= λ u. done (uses u)
item_rest (item_is.Type h) = identifier >>= λ name. type_rest h >>= λ t. done (defines name t)
item_rest (item_is.Func name) =
    expect operator.Colon >>= λ _. kept_func >>= λ f. done (has_func name f)

abbrev pub interface_item : Grammar InterfaceItem
interface_item = token item_head >>= λ h. item_rest h

-- `{` {gates item} `}`
abbrev pub interface_items : Grammar (List (Gated InterfaceItem))
interface_items = braced (members (gated (λ _. interface_item)))

-- id `{` {gates item} `}`
abbrev pub interface_rest : Grammar Interface
interface_rest =
    identifier >>= λ name. interface_items >>= λ xs. done (record { name = name; items = xs })
