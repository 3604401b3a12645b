-- Types (WIT.md, "Item: `ty`").
use Rattle.cm_wit_tokens.specs.cm_types.declared.limits.TheConstants.{MAX_DEPTH}
use Rattle.std.specs.Prelude.{ℕ, zero, suc, Bool, List, [], ◌∷◌, Option, Some, None, Result, Ok}
use Rattle.std.specs.Prelude.{Err}
use Rattle.std.specs.Prelude.{is_ok, if◌then◌else◌}
use Rattle.cm_wit_tokens.specs.declared.keyword.Keyword.{Keyword}
use Rattle.cm_wit_tokens.specs.declared.keyword.Keyword.TheVariants as word
use Rattle.cm_wit_tokens.specs.declared.operator.Operator.TheVariants as operator
use Rattle.cm_wit_tokens.specs.declared.token.Form.{Form}
use Rattle.cm_wit_tokens.specs.declared.token.Form.TheVariants as form
use Rattle.cm_wit_tokens.specs.Forms.{is_operator}
use Rattle.cm_wit_reading.specs.declared.types.Primitive.{Primitive}
use Rattle.cm_wit_reading.specs.declared.types.Primitive.TheVariants as primitive_is
use Rattle.cm_wit_tokens.specs.declared.fault.WitReason.{WitReason}
use Rattle.cm_wit_tokens.specs.declared.fault.WitReason.TheVariants as reason
use Rattle.cm_wit_tokens.specs.Grammar.{Grammar, done, ◌>>=◌, token, chosen}
use Rattle.cm_wit_tokens.specs.Lists.{items}
use Rattle.cm_wit_tokens.specs.Parts.{keyword_fault, other_fault, expect, identifier, length}

mutual
  -- a type, with each name as its bytes
  pub data Ty : Type 0 where
    primitive : Primitive → Ty
    named : List ℕ → Ty
    borrow : List ℕ → Ty
    list : Ty → Ty
    -- a list of so many elements
    fixed_list : Ty → ℕ → Ty
    option : Ty → Ty
    tuple : Tys → Ty
    -- neither type, the type of `ok`, that of `error`, both
    plain_result : Ty
    ok_result : Ty → Ty
    error_result : Ty → Ty
    result : Ty → Ty → Ty

  -- types one after the other
  pub data Tys : Type 0 where
    no_types : Tys
    types : Ty → Tys → Tys

-- types one after the other, from a list
abbrev pub types_from : List Ty → Tys
types_from [] = no_types
types_from (x ∷ xs) = types x (types_from xs)

-- what the first token of a type says
pub data Start : Type 0 where
  whole : Ty → Start
  borrow_of : Start
  list_of : Start
  option_of : Start
  tuple_of : Start
  result_of : Start

-- what a keyword begins as a type, if it begins one
abbrev pub keyword_head : Keyword → Option Start
keyword_head word.Bool = Some (whole (primitive primitive_is.Bool))
keyword_head word.S8 = Some (whole (primitive primitive_is.S8))
keyword_head word.S16 = Some (whole (primitive primitive_is.S16))
keyword_head word.S32 = Some (whole (primitive primitive_is.S32))
keyword_head word.S64 = Some (whole (primitive primitive_is.S64))
keyword_head word.U8 = Some (whole (primitive primitive_is.U8))
keyword_head word.U16 = Some (whole (primitive primitive_is.U16))
keyword_head word.U32 = Some (whole (primitive primitive_is.U32))
keyword_head word.U64 = Some (whole (primitive primitive_is.U64))
keyword_head word.Char = Some (whole (primitive primitive_is.Char))
keyword_head word.String = Some (whole (primitive primitive_is.String))
keyword_head word.Borrow = Some borrow_of
keyword_head word.List = Some list_of
keyword_head word.Option = Some option_of
keyword_head word.Tuple = Some tuple_of
keyword_head word.Result = Some result_of
keyword_head _ = None

abbrev pub keyword_start : Option Start → Keyword → Result Start WitReason
keyword_start None k = Err (keyword_fault k)
keyword_start (Some h) k = Ok h

abbrev pub start_of : Form → Result Start WitReason
start_of (form.Identifier text) = Ok (whole (named text))
start_of (form.Keyword k) = keyword_start (keyword_head k) k
start_of f = Err (other_fault f)

-- what a keyword begins as a type where no borrow may stand
abbrev pub no_borrow : Form → Start → Result Start WitReason
no_borrow f (whole x) = Ok (whole x)
no_borrow f borrow_of = Err (other_fault f)
no_borrow f list_of = Ok list_of
no_borrow f option_of = Ok option_of
no_borrow f tuple_of = Ok tuple_of
no_borrow f result_of = Ok result_of

abbrev pub borrowless : Form → Result Start WitReason → Result Start WitReason
borrowless f (Ok h) = no_borrow f h
borrowless f (Err r) = Err r

abbrev pub start_in : Bool → Form → Result Start WitReason
start_in borrows f = if borrows then start_of f else borrowless f (start_of f)

-- whether a token begins a type, with or without borrows
abbrev pub begins_type_in : Bool → Form → Bool
begins_type_in borrows f = is_ok (start_in borrows f)

-- `<` name `>`
abbrev pub borrow_rest : Grammar Ty
borrow_rest =
    expect operator.LessThan >>= λ _. identifier >>= λ text.
    expect operator.GreaterThan >>= λ _. done (borrow text)

-- `<` ty `>`, or `<` ty `,` length `>`
abbrev pub list_rest : Grammar Ty → Grammar Ty
list_rest t =
    expect operator.LessThan >>= λ _. t >>= λ x.
    chosen (is_operator operator.Comma)
    (expect operator.Comma >>= λ _. length >>= λ n. expect operator.GreaterThan >>= λ _.
    done (fixed_list x n))
    (expect operator.GreaterThan >>= λ _. done (list x))

-- `<` ty `>`
abbrev pub option_rest : Grammar Ty → Grammar Ty
option_rest t =
    expect operator.LessThan >>= λ _. t >>= λ x.
    expect operator.GreaterThan >>= λ _. done (option x)

-- `<` ty {`,` ty} [`,`] `>`
abbrev pub tuple_rest : Grammar Ty → Grammar Ty
tuple_rest t =
    expect operator.LessThan >>= λ _. items operator.GreaterThan t >>= λ xs.
    expect operator.GreaterThan >>= λ _. done (tuple (types_from xs))

-- behind the type of `ok`, `>` or `,` ty `>`
abbrev pub error_rest : Grammar Ty → Ty → Grammar Ty
error_rest t x =
    chosen (is_operator operator.Comma)
    (expect operator.Comma >>= λ _. t >>= λ y. expect operator.GreaterThan >>= λ _.
    done (result x y))
    (expect operator.GreaterThan >>= λ _. done (ok_result x))

-- `_` `,` ty `>`
abbrev pub only_error : Grammar Ty → Grammar Ty
only_error t =
    expect operator.Underscore >>= λ _. expect operator.Comma >>= λ _. t >>= λ y.
    expect operator.GreaterThan >>= λ _. done (error_result y)

-- nothing, or `<` with the types of `ok` and `error`
abbrev pub result_rest : Grammar Ty → Grammar Ty
result_rest t =
    chosen (is_operator operator.LessThan)
    (expect operator.LessThan >>= λ _.
    chosen (is_operator operator.Underscore) (only_error t) (t >>= λ x. error_rest t x))
    (done plain_result)

abbrev pub rest_of : Grammar Ty → Start → Grammar Ty
rest_of t (whole x) = done x
rest_of t borrow_of = borrow_rest
rest_of t list_of = list_rest t
rest_of t option_of = option_rest t
rest_of t tuple_of = tuple_rest t
rest_of t result_of = result_rest t

abbrev pub too_deep : Result Start WitReason → Result Ty WitReason
too_deep (Ok h) = Err reason.TooDeep
too_deep (Err r) = Err r

-- a type that is at most so many deep, with or without borrows
unfoldable pub ty : Bool → ℕ → Grammar Ty
ty borrows zero = token (λ f. too_deep (start_in borrows f))
ty borrows (suc room) = token (start_in borrows) >>= λ h. rest_of (ty borrows room) h

-- a type is at most MAX_DEPTH deep (this project's own choice)
abbrev pub most_depth : ℕ
most_depth = MAX_DEPTH
