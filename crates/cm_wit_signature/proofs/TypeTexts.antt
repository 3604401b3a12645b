-- Each type, parameter and function that a text writes holds something.
use Rattle.std.proofs.Common.{◌≡◌, ℕ, zero, suc, ◌<◌, ◌==◌, Bool, true, false, if◌then◌else◌, List, [], ◌∷◌, Option, Some, None, Result, Ok, Err, refl, subst, arith}
use Rattle.std.proofs.lemmas.Bool.Decides.{nat_tests}
use Rattle.std.specs.List.{AllByRecursion}
use Rattle.std.specs.Option.{IfSome}
use Rattle.cm_wit_tokens.specs.declared.operator.Operator.TheVariants as operator
use Rattle.cm_wit_tokens.specs.declared.keyword.Keyword.{Keyword}
use Rattle.cm_wit_tokens.specs.declared.keyword.Keyword.TheVariants as word
use Rattle.cm_wit_tokens.specs.declared.token.Form.{Form}
use Rattle.cm_wit_tokens.specs.declared.token.Form.TheVariants as form
use Rattle.cm_wit_tokens.specs.declared.fault.WitReason.{WitReason}
use Rattle.cm_wit_tokens.specs.declared.fault.WitReason.TheVariants as reason
use Rattle.cm_wit_tokens.specs.Grammar.{Grammar, done, ◌>>=◌, token}
use Rattle.cm_wit_tokens.specs.Lists.{items}
use Rattle.cm_wit_tokens.specs.Parts as parts
use Rattle.cm_wit_tokens.specs.Parts.{expect, identifier, length_of}
use Rattle.cm_wit_reading.specs.Types.{Ty, Start, whole, borrow_of, list_of, option_of, tuple_of, result_of, keyword_head, keyword_start, start_of, no_borrow, borrowless, start_in, too_deep, borrow_rest, list_rest, option_rest, tuple_rest, error_rest, only_error, result_rest, rest_of, ty, types_from, named, borrow, list, fixed_list, option, tuple, plain_result, ok_result, error_result, result, most_depth}
use Rattle.cm_wit_reading.specs.Signatures.{Typed, any_type, result_type, typed, params, func}
use Rattle.cm_wit_signature.specs.Written.{IsWritten, AreWritten}
use Rattle.cm_wit_signature.specs.Files.{AreWrittenParams, IsWrittenFunc}
use Rattle.cm_wit_signature.proofs.ReadLaws.{Only, done_only, bind_only, next_only, token_only, chosen_only, SomeAll, items_only}

-- ---- first tokens

-- what a first token says is whole is written so
abbrev IsWrittenStart : Start → Type 0
IsWrittenStart (whole x) = IsWritten x
IsWrittenStart _ = Unit {0}

head_written : (k : Keyword) (h : Start) → keyword_start (keyword_head k) k ≡ Ok h → IsWrittenStart h
head_written k h e = by (keyword_head k) (heads k) e
  where
    heads : (k : Keyword) → IfSome (keyword_head k) IsWrittenStart
    heads word.Package = tt {0}
    heads word.Interface = tt {0}
    heads word.World = tt {0}
    heads word.Use = tt {0}
    heads word.As = tt {0}
    heads word.Type = tt {0}
    heads word.Record = tt {0}
    heads word.Variant = tt {0}
    heads word.Enum = tt {0}
    heads word.Flags = tt {0}
    heads word.Resource = tt {0}
    heads word.Func = tt {0}
    heads word.Static = tt {0}
    heads word.Constructor = tt {0}
    heads word.Import = tt {0}
    heads word.Export = tt {0}
    heads word.Include = tt {0}
    heads word.List = tt {0}
    heads word.Option = tt {0}
    heads word.Result = tt {0}
    heads word.Tuple = tt {0}
    heads word.Own = tt {0}
    heads word.Borrow = tt {0}
    heads word.Bool = tt {0}
    heads word.S8 = tt {0}
    heads word.S16 = tt {0}
    heads word.S32 = tt {0}
    heads word.S64 = tt {0}
    heads word.U8 = tt {0}
    heads word.U16 = tt {0}
    heads word.U32 = tt {0}
    heads word.U64 = tt {0}
    heads word.F32 = tt {0}
    heads word.F64 = tt {0}
    heads word.Char = tt {0}
    heads word.String = tt {0}
    heads word.Stream = tt {0}
    heads word.Future = tt {0}
    heads word.Async = tt {0}
    heads word.From = tt {0}

    by : (o : Option Start) → IfSome o IsWrittenStart → keyword_start o k ≡ Ok h → IsWrittenStart h
    by None w e = absurd cc
    by (Some j) w e = let same : j ≡ h = cc in subst IsWrittenStart same w

start_written : (f : Form) (h : Start) → start_of f ≡ Ok h → IsWrittenStart h
start_written (form.Operator o) h e = absurd cc
start_written (form.Keyword k) h e = head_written k h e
start_written (form.Identifier text) h e = let same : whole (named text) ≡ h = cc in subst IsWrittenStart same (tt {0})
start_written (form.Version text) h e = absurd cc
start_written (form.Integer n) h e = absurd cc

no_borrow_written : (f : Form) (h k : Start) → IsWrittenStart h → no_borrow f h ≡ Ok k → IsWrittenStart k
no_borrow_written f (whole x) k w e = let same : whole x ≡ k = cc in subst IsWrittenStart same w
no_borrow_written f borrow_of k w e = absurd cc
no_borrow_written f list_of k w e = let same : list_of ≡ k = cc in subst IsWrittenStart same (tt {0})
no_borrow_written f option_of k w e = let same : option_of ≡ k = cc in subst IsWrittenStart same (tt {0})
no_borrow_written f tuple_of k w e = let same : tuple_of ≡ k = cc in subst IsWrittenStart same (tt {0})
no_borrow_written f result_of k w e = let same : result_of ≡ k = cc in subst IsWrittenStart same (tt {0})

borrowless_written : (f : Form) (r : Result Start WitReason) → ((h : Start) → r ≡ Ok h → IsWrittenStart h) → (k : Start) → borrowless f r ≡ Ok k → IsWrittenStart k
borrowless_written f (Ok h) p k e = no_borrow_written f h k (p h refl) e
borrowless_written f (Err r) p k e = absurd cc

start_in_written : (borrows : Bool) (f : Form) (h : Start) → start_in borrows f ≡ Ok h → IsWrittenStart h
start_in_written true f h e = start_written f h e
start_in_written false f h e = borrowless_written f (start_of f) (start_written f) h e

deep_never : (r : Result Start WitReason) (x : Ty) → too_deep r ≡ Ok x → IsWritten x
deep_never (Ok h) x e = absurd cc
deep_never (Err r) x e = absurd cc

-- ---- types

closed : (x : Ty) → IsWritten x → Only IsWritten (expect operator.GreaterThan >>= λ _. done x)
closed x w = next_only IsWritten (expect operator.GreaterThan) _ (λ _. done_only IsWritten x w)

borrow_only : Only IsWritten borrow_rest
borrow_only = next_only IsWritten (expect operator.LessThan) _ (λ _. next_only IsWritten identifier _ (λ text. closed (borrow text) (tt {0})))

length_positive : (f : Form) (n : ℕ) → length_of f ≡ Ok n → 0 < n
length_positive (form.Integer m) n e = by (m == 0) refl e
  where
    by : (b : Bool) → (m == 0) ≡ b → (if b then Err reason.Unexpected else Ok m) ≡ Ok n → 0 < n
    by true t e = absurd cc
    by false t e = let same : m ≡ n = cc in grind (arith, nat_tests, t, same)
length_positive (form.Operator o) n e = absurd cc
length_positive (form.Keyword k) n e = absurd cc
length_positive (form.Identifier text) n e = absurd cc
length_positive (form.Version text) n e = absurd cc

list_only : (t : Grammar Ty) → Only IsWritten t → Only IsWritten (list_rest t)
list_only t l = next_only IsWritten (expect operator.LessThan) _ (λ _. bind_only IsWritten IsWritten t _ l (λ x w.
    chosen_only IsWritten _ _ _
    (next_only IsWritten (expect operator.Comma) _ (λ _. bind_only (λ (n : ℕ). 0 < n) IsWritten parts.length _ (token_only (λ (n : ℕ). 0 < n) length_of length_positive) (λ n some. closed (fixed_list x n) (some, w))))
    (closed (list x) w)))

option_only : (t : Grammar Ty) → Only IsWritten t → Only IsWritten (option_rest t)
option_only t l = next_only IsWritten (expect operator.LessThan) _ (λ _. bind_only IsWritten IsWritten t _ l (λ x w. closed (option x) w))

all_written : (xs : List Ty) → AllByRecursion IsWritten xs → AreWritten (types_from xs)
all_written [] w = tt {0}
all_written (x ∷ xs) w = (w.0, all_written xs w.1)

tuple_written : (xs : List Ty) → SomeAll IsWritten xs → IsWritten (tuple (types_from xs))
tuple_written [] w = absurd (omega (arith, w.0))
tuple_written (x ∷ xs) w = (tt {0}, all_written (x ∷ xs) w.1)

tuple_only : (t : Grammar Ty) → Only IsWritten t → Only IsWritten (tuple_rest t)
tuple_only t l = next_only IsWritten (expect operator.LessThan) _ (λ _. bind_only (SomeAll IsWritten) IsWritten (items operator.GreaterThan t) _ (items_only IsWritten operator.GreaterThan t l) (λ xs w. closed (tuple (types_from xs)) (tuple_written xs w)))

error_only_after : (t : Grammar Ty) → Only IsWritten t → (x : Ty) → IsWritten x → Only IsWritten (error_rest t x)
error_only_after t l x w = chosen_only IsWritten _ _ _
    (next_only IsWritten (expect operator.Comma) _ (λ _. bind_only IsWritten IsWritten t _ l (λ y v. closed (result x y) (w, v))))
    (closed (ok_result x) w)

only_error_only : (t : Grammar Ty) → Only IsWritten t → Only IsWritten (only_error t)
only_error_only t l = next_only IsWritten (expect operator.Underscore) _ (λ _. next_only IsWritten (expect operator.Comma) _ (λ _. bind_only IsWritten IsWritten t _ l (λ y v. closed (error_result y) v)))

result_only : (t : Grammar Ty) → Only IsWritten t → Only IsWritten (result_rest t)
result_only t l = chosen_only IsWritten _ _ _
    (next_only IsWritten (expect operator.LessThan) _ (λ _. chosen_only IsWritten _ _ _ (only_error_only t l) (bind_only IsWritten IsWritten t _ l (λ x w. error_only_after t l x w))))
    (done_only IsWritten plain_result (tt {0}))

rest_only : (t : Grammar Ty) → Only IsWritten t → (h : Start) → IsWrittenStart h → Only IsWritten (rest_of t h)
rest_only t l (whole x) w = done_only IsWritten x w
rest_only t l borrow_of w = borrow_only
rest_only t l list_of w = list_only t l
rest_only t l option_of w = option_only t l
rest_only t l tuple_of w = tuple_only t l
rest_only t l result_of w = result_only t l

pub ty_only : (borrows : Bool) (room : ℕ) → Only IsWritten (ty borrows room)
unfolding ty
ty_only borrows zero = token_only IsWritten _ (λ f x e. deep_never (start_in borrows f) x e)
ty_only borrows (suc room) = bind_only IsWrittenStart IsWritten (token (start_in borrows)) _ (token_only IsWrittenStart (start_in borrows) (start_in_written borrows)) (λ h w. rest_only (ty borrows room) (ty_only borrows room) h w)

-- ---- functions

abbrev pub IsWrittenTyped : Typed → Type 0
IsWrittenTyped p = IsWritten p.1

pub typed_only : Only IsWrittenTyped typed
typed_only = next_only IsWrittenTyped identifier _ (λ name. next_only IsWrittenTyped (expect operator.Colon) _ (λ _. bind_only IsWritten IsWrittenTyped any_type _ (ty_only true most_depth) (λ x w. done_only IsWrittenTyped (name, x) w)))

pub params_only : Only AreWrittenParams params
params_only = next_only AreWrittenParams (expect operator.LeftParenthesis) _ (λ _. bind_only AreWrittenParams AreWrittenParams _ _
    (chosen_only AreWrittenParams _ _ _ (done_only AreWrittenParams [] (tt {0})) (some_params (items operator.RightParenthesis typed) (items_only IsWrittenTyped operator.RightParenthesis typed typed_only)))
    (λ xs w. next_only AreWrittenParams (expect operator.RightParenthesis) _ (λ _. done_only AreWrittenParams xs w)))
  where
    some_params : (g : Grammar (List Typed)) → Only (SomeAll IsWrittenTyped) g → Only AreWrittenParams g
    some_params g l = record { read = λ ts x rest e. (l.read ts x rest e).1 }

pub func_only : Only IsWrittenFunc func
func_only = bind_only AreWrittenParams IsWrittenFunc params _ params_only (λ xs w. chosen_only IsWrittenFunc _ _ _
    (next_only IsWrittenFunc (expect operator.Arrow) _ (λ _. bind_only IsWritten IsWrittenFunc result_type _ (ty_only false most_depth) (λ x v. done_only IsWrittenFunc (record { params = xs; result = Some x }) (w, v))))
    (done_only IsWrittenFunc (record { params = xs; result = None }) (w, tt {0})))
