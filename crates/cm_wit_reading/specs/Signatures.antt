-- Functions, and the paths of interfaces (WIT.md, "Item: `func`", and "Item: `use`").
use Rattle.std.specs.Prelude.{ℕ, true, false, List, [], Option, Some, None}
use Rattle.cm_wit_tokens.specs.declared.operator.Operator.TheVariants as operator
use Rattle.cm_wit_tokens.specs.Forms.{is_operator}
use Rattle.cm_wit_tokens.specs.Grammar.{Grammar, done, ◌>>=◌, token, chosen}
use Rattle.cm_wit_tokens.specs.Lists.{items}
use Rattle.cm_wit_tokens.specs.Parts.{expect, identifier, version_of}
use Rattle.cm_wit_reading.specs.Types.{Ty, ty, most_depth}

-- a name and its type
abbrev pub Typed : Type 0
Typed = List ℕ × Ty

-- the type of a function: its parameters, and its result, if it has one
pub record Func : Type 0 where
  pub params : List Typed
  pub result : Option Ty

-- where an interface is declared: in this package, or in one of these namespace and name, with this
-- version
pub data Path : Type 0 where
  local : List ℕ → Path
  foreign : List ℕ → List ℕ → List ℕ → Option (List ℕ) → Path

-- a type, and one in the result of a function
abbrev pub any_type : Grammar Ty
any_type = ty true most_depth

abbrev pub result_type : Grammar Ty
result_type = ty false most_depth

-- name `:` ty
abbrev pub typed : Grammar Typed
typed = identifier >>= λ name. expect operator.Colon >>= λ _. any_type >>= λ x. done (name, x)

-- `(` [typed {`,` typed} [`,`]] `)`
abbrev pub params : Grammar (List Typed)
params =
    expect operator.LeftParenthesis >>= λ _.
    chosen (is_operator operator.RightParenthesis) (done [])
    (items operator.RightParenthesis typed) >>= λ xs.
    expect operator.RightParenthesis >>= λ _. done xs

-- params [`->` ty]
abbrev pub func : Grammar Func
func =
    params >>= λ xs.
    chosen (is_operator operator.Arrow)
    (expect operator.Arrow >>= λ _. result_type >>= λ x.
    done (record { params = xs; result = Some x }))
    (done (record { params = xs; result = None }))

-- [`@` version]
abbrev pub optional_version : Grammar (Option (List ℕ))
optional_version =
    chosen (is_operator operator.At)
    (expect operator.At >>= λ _. token version_of >>= λ text. done (Some text))
    (done None)

-- behind a namespace and its `:`, name `/` name [`@` version]
abbrev pub foreign_rest : List ℕ → Grammar Path
foreign_rest namespace =
    identifier >>= λ pkg. expect operator.Slash >>= λ _. identifier >>= λ name.
    optional_version >>= λ version. done (foreign namespace pkg name version)

-- name, or name `:` name `/` name [`@` version]
abbrev pub path : Grammar Path
path =
    identifier >>= λ name.
    chosen (is_operator operator.Colon)
    (expect operator.Colon >>= λ _. foreign_rest name)
    (done (local name))
