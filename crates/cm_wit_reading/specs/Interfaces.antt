-- Interfaces and their items (WIT.md, "Item: `interface`").
use Rattle.cm_types.specs.declared.spellable.TheConstants.{MAX_FLAGS}
use Rattle.std.specs.Prelude.{ℕ, ◌-◌, Bool, true, false, List, [], Option, Some, None}
use Rattle.std.specs.Prelude.{if◌then◌else◌}
use Rattle.cm_wit_tokens.specs.declared.keyword.Keyword.TheVariants as word
use Rattle.cm_wit_tokens.specs.declared.operator.Operator.TheVariants as operator
use Rattle.cm_wit_tokens.specs.Forms.{is_keyword, is_operator}
use Rattle.cm_wit_tokens.specs.Grammar.{Grammar, done, ◌>>=◌, token, chosen}
use Rattle.cm_wit_tokens.specs.Lists.{items, items_and, members}
use Rattle.cm_wit_tokens.specs.Parts.{expect, expect_word, identifier}
use Rattle.cm_wit_reading.specs.Types.{Ty}
use Rattle.cm_wit_reading.specs.Signatures.{Func, any_type, typed, params, func, path}
use Rattle.cm_wit_reading.specs.declared.heads.TypeHead.{TypeHead}
use Rattle.cm_wit_reading.specs.declared.heads.TypeHead.TheVariants as type_is
use Rattle.cm_wit_reading.specs.declared.heads.ItemHead.{ItemHead}
use Rattle.cm_wit_reading.specs.declared.heads.ItemHead.TheVariants as item_is
use Rattle.cm_wit_reading.specs.declared.heads.MethodHead.{MethodHead}
use Rattle.cm_wit_reading.specs.declared.heads.MethodHead.TheVariants as method_is
use Rattle.cm_wit_reading.specs.Heads.{item_head, method_head}
use Rattle.cm_wit_reading.specs.Trees.{UsedName, Use, Case, ResourceFunc, method, static}
use Rattle.cm_wit_reading.specs.Trees.{constructor}
use Rattle.cm_wit_reading.specs.Trees.{TypeDef, alias, record_of, variant, enum, flags, resource}
use Rattle.cm_wit_reading.specs.Trees.{InterfaceItem, uses, defines, has_func, Interface}

-- `{` x `}`
abbrev pub braced : {A : Type 0} → Grammar A → Grammar A
braced g = expect operator.LeftBrace >>= λ _. g >>= λ x. expect operator.RightBrace >>= λ _. done x

-- x `;`
abbrev pub ended : {A : Type 0} → Grammar A → Grammar A
ended g = g >>= λ x. expect operator.Semicolon >>= λ _. done x

-- ---- used names

-- [`as` id]
abbrev pub new_name : Grammar (Option (List ℕ))
new_name =
    chosen (is_keyword word.As)
    (expect_word word.As >>= λ _. identifier >>= λ name. done (Some name))
    (done None)

-- id [`as` id]
abbrev pub used_name : Grammar UsedName
used_name =
    identifier >>= λ name. new_name >>= λ new. done (record { name = name; new_name = new })

-- path `.` `{` used-name {`,` used-name} [`,`] `}` `;`
abbrev pub use_rest : Grammar Use
use_rest =
    path >>= λ p. expect operator.Period >>= λ _.
    ended (braced (items operator.RightBrace used_name)) >>= λ names.
    done (record { path = p; names = names })

-- ---- types

-- [`(` ty `)`]
abbrev pub case_type : Grammar (Option Ty)
case_type =
    chosen (is_operator operator.LeftParenthesis)
    (expect operator.LeftParenthesis >>= λ _. any_type >>= λ t.
    expect operator.RightParenthesis >>= λ _. done (Some t))
    (done None)

-- id [`(` ty `)`]
abbrev pub case : Grammar Case
case = identifier >>= λ name. case_type >>= λ t. done (record { name = name; ty = t })

-- [`static`] `func` params [`->` ty] `;`
abbrev pub is_static : Grammar Bool
is_static =
    chosen (is_keyword word.Static) (expect_word word.Static >>= λ _. done true) (done false)

abbrev pub func_rest : Grammar Func
func_rest = expect_word word.Func >>= λ _. ended func

-- a function of a resource, by its first token
abbrev pub method_rest : MethodHead → Grammar ResourceFunc
method_rest method_is.Constructor = ended params >>= λ ps. done (constructor ps)
method_rest (method_is.Named name) =
    expect operator.Colon >>= λ _. is_static >>= λ s. func_rest >>= λ f.
    done (if s then static name f else method name f)

abbrev pub resource_func : Grammar ResourceFunc
resource_func = token method_head >>= λ h. method_rest h

-- `;`, or the functions in braces
abbrev pub resource_rest : Grammar (List ResourceFunc)
resource_rest =
    chosen (is_operator operator.Semicolon)
    (expect operator.Semicolon >>= λ _. done [])
    (braced (members resource_func))

-- names in braces, of flags 32 at most
abbrev pub more_flags : ℕ
more_flags = MAX_FLAGS - 1

-- what stands behind a type's name, by the keyword before it
abbrev pub def_rest : TypeHead → Grammar TypeDef
def_rest type_is.Type =
    expect operator.Equals >>= λ _. ended any_type >>= λ t. done (alias t)
def_rest type_is.Record =
    braced (items operator.RightBrace typed) >>= λ fs. done (record_of fs)
def_rest type_is.Variant =
    braced (items operator.RightBrace case) >>= λ cs. done (variant cs)
def_rest type_is.Enum =
    braced (items operator.RightBrace identifier) >>= λ names. done (enum names)
def_rest type_is.Flags =
    braced (items_and more_flags operator.RightBrace identifier) >>= λ names. done (flags names)
def_rest type_is.Resource = resource_rest >>= λ fs. done (resource fs)

-- ---- items

-- an item, by its first token
abbrev pub item_rest : ItemHead → Grammar InterfaceItem
item_rest item_is.Use = use_rest >>= λ u. done (uses u)
item_rest (item_is.Type h) =
    identifier >>= λ name. def_rest h >>= λ t. done (defines name t)
item_rest (item_is.Func name) =
    expect operator.Colon >>= λ _. func_rest >>= λ f. done (has_func name f)

abbrev pub interface_item : Grammar InterfaceItem
interface_item = token item_head >>= λ h. item_rest h

-- id `{` {item} `}`
abbrev pub interface_rest : Grammar Interface
interface_rest =
    identifier >>= λ name. braced (members interface_item) >>= λ xs.
    done (record { name = name; items = xs })
