-- Worlds and their items (WIT.md, "Item: `world`").
use Rattle.cm_wit_tokens.specs.declared.keyword.Keyword.TheVariants as word
use Rattle.cm_wit_tokens.specs.declared.operator.Operator.TheVariants as operator
use Rattle.cm_wit_tokens.specs.Forms.{is_keyword, is_operator}
use Rattle.std.specs.Prelude.{ℕ, List}
use Rattle.cm_wit_tokens.specs.Grammar.{Grammar, done, ◌>>=◌, token, chosen}
use Rattle.cm_wit_tokens.specs.Lists.{members}
use Rattle.cm_wit_tokens.specs.Parts.{expect, expect_word, identifier}
use Rattle.cm_wit_reading.specs.Signatures.{func, local, foreign_rest}
use Rattle.cm_wit_reading.specs.declared.heads.WorldHead.{WorldHead}
use Rattle.cm_wit_reading.specs.declared.heads.WorldHead.TheVariants as world_is
use Rattle.cm_wit_reading.specs.Heads.{world_head}
use Rattle.cm_wit_reading.specs.Interfaces.{braced, ended}
use Rattle.cm_wit_reading.specs.Trees.{WorldExtern, interface_at, named_func, WorldItem, imports}
use Rattle.cm_wit_reading.specs.Trees.{exports, World}

-- behind a name and its `:`, a function or the rest of a path
abbrev pub behind_colon : List ℕ → Grammar WorldExtern
behind_colon name =
    chosen (is_keyword word.Func)
    (expect_word word.Func >>= λ _. func >>= λ f. done (named_func name f))
    (foreign_rest name >>= λ p. done (interface_at p))

-- path, or id `:` `func` params [`->` ty]
abbrev pub extern : Grammar WorldExtern
extern =
    identifier >>= λ name.
    chosen (is_operator operator.Colon)
    (expect operator.Colon >>= λ _. behind_colon name)
    (done (interface_at (local name)))

-- an item of a world, by its first token: extern `;`
abbrev pub with_direction : WorldHead → WorldExtern → WorldItem
with_direction world_is.Import e = imports e
with_direction world_is.Export e = exports e

abbrev pub world_item : Grammar WorldItem
world_item = token world_head >>= λ h. ended extern >>= λ e. done (with_direction h e)

-- id `{` {item} `}`
abbrev pub world_rest : Grammar World
world_rest =
    identifier >>= λ name. braced (members world_item) >>= λ xs.
    done (record { name = name; items = xs })
