-- What the spellings of operators and keywords are of: no two have one.
use Rattle.std.proofs.Common.{◌≡◌, ◌≢◌, ℕ, Bool, true, false, List, [], ◌∷◌, Option, Some, None, refl, sym, ap, ◌∙◌, inl, inr}
use Rattle.std.proofs.lemmas.Bool.{cases_Bool}
use Rattle.std.proofs.lemmas.Slice.Eq.{bytes_eq-Decides}
use Rattle.std.specs.Str.{bytes_eq}
use Rattle.cm_lemmas.proofs.Options.{some_is}
use Rattle.cm_wit_tokens.specs.declared.keyword.Keyword.{Keyword}
use Rattle.cm_wit_tokens.specs.declared.keyword.Keyword.TheVariants as word
use Rattle.cm_wit_tokens.specs.declared.operator.Operator.{Operator}
use Rattle.cm_wit_tokens.specs.declared.operator.Operator.TheVariants as operator
use Rattle.cm_wit_tokens.specs.Keywords.{spelling, keyword_of}
use Rattle.cm_wit_tokens.specs.Operators.{operator_spelling, operator_of}

operator_from : List ℕ → Option Operator
operator_from [] = None
operator_from (b ∷ []) = operator_of b
operator_from (b ∷ c ∷ rest) = Some operator.Arrow

from_spelling : (o : Operator) → operator_from (operator_spelling o) ≡ Some o
unfolding operator_from
from_spelling operator.Equals = refl
from_spelling operator.Comma = refl
from_spelling operator.Colon = refl
from_spelling operator.Semicolon = refl
from_spelling operator.LeftParenthesis = refl
from_spelling operator.RightParenthesis = refl
from_spelling operator.LeftBrace = refl
from_spelling operator.RightBrace = refl
from_spelling operator.LessThan = refl
from_spelling operator.GreaterThan = refl
from_spelling operator.Arrow = refl
from_spelling operator.Slash = refl
from_spelling operator.Period = refl
from_spelling operator.At = refl
from_spelling operator.Underscore = refl

keyword_spelling : (k : Keyword) → keyword_of (spelling k) ≡ Some k
unfolding keyword_of
keyword_spelling word.Package = refl
keyword_spelling word.Interface = refl
keyword_spelling word.World = refl
keyword_spelling word.Use = refl
keyword_spelling word.As = refl
keyword_spelling word.Type = refl
keyword_spelling word.Record = refl
keyword_spelling word.Variant = refl
keyword_spelling word.Enum = refl
keyword_spelling word.Flags = refl
keyword_spelling word.Resource = refl
keyword_spelling word.Func = refl
keyword_spelling word.Static = refl
keyword_spelling word.Constructor = refl
keyword_spelling word.Import = refl
keyword_spelling word.Export = refl
keyword_spelling word.Include = refl
keyword_spelling word.List = refl
keyword_spelling word.Option = refl
keyword_spelling word.Result = refl
keyword_spelling word.Tuple = refl
keyword_spelling word.Own = refl
keyword_spelling word.Borrow = refl
keyword_spelling word.Bool = refl
keyword_spelling word.S8 = refl
keyword_spelling word.S16 = refl
keyword_spelling word.S32 = refl
keyword_spelling word.S64 = refl
keyword_spelling word.U8 = refl
keyword_spelling word.U16 = refl
keyword_spelling word.U32 = refl
keyword_spelling word.U64 = refl
keyword_spelling word.F32 = refl
keyword_spelling word.F64 = refl
keyword_spelling word.Char = refl
keyword_spelling word.String = refl
keyword_spelling word.Stream = refl
keyword_spelling word.Future = refl
keyword_spelling word.Async = refl
keyword_spelling word.From = refl

-- a test that tells the same apart as their texts do answers as the test of the texts
told : {A : Type 0} (text : A → List ℕ) → ((x y : A) → text x ≡ text y → x ≡ y) → (x y : A) (r : Bool) → (r ≡ true → x ≡ y) → (r ≡ false → x ≢ y) → r ≡ bytes_eq (text x) (text y)
told text one x y true same other = sym ((bytes_eq-Decides (text x) (text y)).1 (ap text (same refl)))
told text one x y false same other = elim (cases_Bool (bytes_eq (text x) (text y))) [
  | inl e ↦ absurd (other refl (one x y ((bytes_eq-Decides (text x) (text y)).0 e)))
  | inr e ↦ sym e
]

pub one_operator : (o p : Operator) → operator_spelling o ≡ operator_spelling p → o ≡ p
one_operator o p e = some_is o p (sym (from_spelling o) ∙ (ap operator_from e ∙ from_spelling p))

pub one_keyword : (k l : Keyword) → spelling k ≡ spelling l → k ≡ l
one_keyword k l e = some_is k l (sym (keyword_spelling k) ∙ (ap keyword_of e ∙ keyword_spelling l))

pub operator_told : (o p : Operator) (r : Bool) → (r ≡ true → o ≡ p) → (r ≡ false → o ≢ p) → r ≡ bytes_eq (operator_spelling o) (operator_spelling p)
operator_told = told operator_spelling one_operator

pub keyword_told : (k l : Keyword) (r : Bool) → (r ≡ true → k ≡ l) → (r ≡ false → k ≢ l) → r ≡ bytes_eq (spelling k) (spelling l)
keyword_told = told spelling one_keyword

pub ruleset spelling_laws = (operator_told, keyword_told)
