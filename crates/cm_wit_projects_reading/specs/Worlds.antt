-- Worlds and their items (WIT.md, "Item: `world`").
use Rattle.std.specs.Prelude.{ℕ, ◌||◌, Bool, List, []}
use Rattle.cm_wit_tokens.specs.declared.keyword.Keyword.TheVariants as word
use Rattle.cm_wit_tokens.specs.declared.operator.Operator.TheVariants as operator
use Rattle.cm_wit_tokens.specs.declared.token.Form.{Form}
use Rattle.cm_wit_tokens.specs.Forms.{is_keyword, is_operator}
use Rattle.cm_wit_tokens.specs.Grammar.{Grammar, done, ◌>>=◌, token, chosen}
use Rattle.cm_wit_tokens.specs.Lists.{items, members}
use Rattle.cm_wit_tokens.specs.Parts.{expect, expect_word, identifier}
use Rattle.cm_wit_reading.specs.Signatures.{foreign_rest, local, path}
use Rattle.cm_wit_reading.specs.Interfaces.{braced, ended}
use Rattle.cm_wit_projects_reading.specs.declared.heads.WorldHead.{WorldHead}
use Rattle.cm_wit_projects_reading.specs.declared.heads.WorldHead.TheVariants as world_is
use Rattle.cm_wit_projects_reading.specs.Gates.{gated}
use Rattle.cm_wit_projects_reading.specs.Heads.{world_head}
use Rattle.cm_wit_projects_reading.specs.Interfaces.{interface_items, kept_func}
use Rattle.cm_wit_projects_reading.specs.Interfaces.{type_rest, use_rest}
use Rattle.cm_wit_projects_reading.specs.Trees.{WorldExtern, interface_at, named_func, in_place}
use Rattle.cm_wit_projects_reading.specs.Trees.{Renamed, Include, WorldItem, imports, exports}
use Rattle.cm_wit_projects_reading.specs.Trees.{uses_types, defines_type, includes, World}

-- ---- what is imported and exported

-- whether a function stands behind a name and its `:`
abbrev pub begins_func : Form → Bool
begins_func f = is_keyword word.Func f || is_keyword word.Async f

-- behind a name and its `:`, an interface in place, a function, or the rest of a path
abbrev pub behind_colon : List ℕ → Grammar WorldExtern
behind_colon name =
    chosen (is_keyword word.Interface)
    (expect_word word.Interface >>= λ _. interface_items >>= λ xs. done (in_place name xs))
    (chosen begins_func
    (kept_func >>= λ f. done (named_func name f))
    (ended (foreign_rest name) >>= λ p. done (interface_at p)))

-- path `;`, or id `:` and a function or an interface in place
abbrev pub extern : Grammar WorldExtern
extern =
    identifier >>= λ name.
    chosen (is_operator operator.Colon)
    (expect operator.Colon >>= λ _. behind_colon name)
    (expect operator.Semicolon >>= λ _. done (interface_at (local name)))

-- ---- what is included

-- id `as` id
abbrev pub renamed : Grammar Renamed
renamed =
    identifier >>= λ name. expect_word word.As >>= λ _. identifier >>= λ new.
    done (record { name = name; new_name = new })

-- path `;`, or path `with` `{` renamed {`,` renamed} [`,`] `}` (`with` has the token of `from`)
abbrev pub include_names : Grammar (List Renamed)
include_names =
    chosen (is_keyword word.From)
    (expect_word word.From >>= λ _. braced (items operator.RightBrace renamed))
    (expect operator.Semicolon >>= λ _. done [])

abbrev pub include_rest : Grammar Include
include_rest =
    path >>= λ p. include_names >>= λ names. done (record { path = p; renamed = names })

-- ---- items

-- an item of a world, by its first token
abbrev pub world_item_rest : WorldHead → Grammar WorldItem
world_item_rest world_is.Import = extern >>= λ e. done (imports e)
world_item_rest world_is.Export = extern >>= λ e. done (exports e)
world_item_rest world_is.Use = use_rest >>= λ u. done (uses_types u)
world_item_rest (world_is.Type h) =
    identifier >>= λ name. type_rest h >>= λ t. done (defines_type name t)
world_item_rest world_is.Include = include_rest >>= λ i. done (includes i)

abbrev pub world_item : Grammar WorldItem
world_item = token world_head >>= λ h. world_item_rest h

-- id `{` {gates item} `}`
abbrev pub world_rest : Grammar World
world_rest =
    identifier >>= λ name. braced (members (gated (λ _. world_item))) >>= λ xs.
    done (record { name = name; items = xs })
