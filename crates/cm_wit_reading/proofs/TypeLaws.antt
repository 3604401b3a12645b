-- The laws of types.
use Rattle.std.proofs.Common.{◌≡◌, ℕ, zero, suc, Bool, true, false, List, [], ◌∷◌, Option, Some, None, Result, Ok, Err, refl}
use Rattle.cm_wit_tokens.specs.declared.operator.Operator.TheVariants as operator
use Rattle.cm_wit_tokens.specs.declared.token.Token.{Token}
use Rattle.std.specs.Prelude.{is_ok}
use Rattle.cm_wit_tokens.specs.declared.keyword.Keyword.{Keyword}
use Rattle.cm_wit_tokens.specs.declared.token.Form.{Form}
use Rattle.cm_wit_tokens.specs.declared.token.Form.TheVariants as form
use Rattle.cm_wit_tokens.specs.declared.fault.WitReason.{WitReason}
use Rattle.cm_wit_tokens.specs.declared.fault.WitReason.TheVariants as reason
use Rattle.cm_wit_tokens.specs.Faults.{flaw, Fails}
use Rattle.cm_wit_tokens.specs.Grammar.{first, passes, Grammar, done, ◌>>=◌}
use Rattle.cm_wit_tokens.specs.Parts.{keyword_fault, other_fault, unexpected, expect, length_of, identifier_of}
use Rattle.cm_wit_reading.specs.Types.{Ty, Start, whole, borrow_of, list_of, option_of, tuple_of, result_of, keyword_head, keyword_start, start_of, no_borrow, borrowless, start_in, begins_type_in, too_deep, borrow_rest, list_rest, option_rest, tuple_rest, error_rest, only_error, result_rest, rest_of, ty}
use Rattle.cm_wit_tokens.proofs.Laws.{Lawful, done_lawful, bind_lawful, token_lawful, chosen_lawful}
use Rattle.cm_wit_tokens.proofs.ListLaws.{expect_lawful, items_lawful}

-- a `>`, and the value
closed : (x : Ty) → Lawful (expect operator.GreaterThan >>= λ _. done x)
closed x = bind_lawful _ _ (expect_lawful operator.GreaterThan) (λ _. done_lawful x)

borrow_lawful : Lawful borrow_rest
borrow_lawful = bind_lawful _ _ (expect_lawful operator.LessThan) (λ _. bind_lawful _ _ (token_lawful identifier_of) (λ text. closed _))

list_lawful : (t : Grammar Ty) → Lawful t → Lawful (list_rest t)
list_lawful t l = bind_lawful _ _ (expect_lawful operator.LessThan) (λ _. bind_lawful _ _ l (λ x. chosen_lawful _ _ _ (bind_lawful _ _ (expect_lawful operator.Comma) (λ _. bind_lawful _ _ (token_lawful length_of) (λ n. closed _))) (closed _)))

option_lawful : (t : Grammar Ty) → Lawful t → Lawful (option_rest t)
option_lawful t l = bind_lawful _ _ (expect_lawful operator.LessThan) (λ _. bind_lawful _ _ l (λ x. closed _))

tuple_lawful : (t : Grammar Ty) → Lawful t → Lawful (tuple_rest t)
tuple_lawful t l = bind_lawful _ _ (expect_lawful operator.LessThan) (λ _. bind_lawful _ _ (items_lawful operator.GreaterThan t l) (λ xs. closed _))

error_lawful : (t : Grammar Ty) → Lawful t → (x : Ty) → Lawful (error_rest t x)
error_lawful t l x = chosen_lawful _ _ _ (bind_lawful _ _ (expect_lawful operator.Comma) (λ _. bind_lawful _ _ l (λ y. closed _))) (closed _)

only_error_lawful : (t : Grammar Ty) → Lawful t → Lawful (only_error t)
only_error_lawful t l = bind_lawful _ _ (expect_lawful operator.Underscore) (λ _. bind_lawful _ _ (expect_lawful operator.Comma) (λ _. bind_lawful _ _ l (λ y. closed _)))

result_lawful : (t : Grammar Ty) → Lawful t → Lawful (result_rest t)
result_lawful t l = chosen_lawful _ _ _ (bind_lawful _ _ (expect_lawful operator.LessThan) (λ _. chosen_lawful _ _ _ (only_error_lawful t l) (bind_lawful _ _ l (λ x. error_lawful t l x)))) (done_lawful _)

rest_lawful : (t : Grammar Ty) → Lawful t → (h : Start) → Lawful (rest_of t h)
rest_lawful t l (whole x) = done_lawful x
rest_lawful t l borrow_of = borrow_lawful
rest_lawful t l list_of = list_lawful t l
rest_lawful t l option_of = option_lawful t l
rest_lawful t l tuple_of = tuple_lawful t l
rest_lawful t l result_of = result_lawful t l

pub ty_lawful : (borrows : Bool) (room : ℕ) → Lawful (ty borrows room)
unfolding ty
ty_lawful borrows zero = token_lawful _
ty_lawful borrows (suc room) = bind_lawful _ _ (token_lawful (start_in borrows)) (λ h. rest_lawful (ty borrows room) (ty_lawful borrows room) h)

-- ---- where a type is too deep

head_none : (o : Option Start) (k : Keyword) → is_ok (keyword_start o k) ≡ false → keyword_start o k ≡ Err (keyword_fault k)
head_none None k e = refl
head_none (Some h) k e = absurd cc

begins_not : (f : Form) → is_ok (start_of f) ≡ false → start_of f ≡ Err (other_fault f)
begins_not (form.Operator o) e = refl
begins_not (form.Keyword k) e = head_none (keyword_head k) k e
begins_not (form.Identifier text) e = absurd cc
begins_not (form.Version text) e = refl
begins_not (form.Integer n) e = refl

no_borrow_not : (f : Form) (h : Start) → is_ok (no_borrow f h) ≡ false → no_borrow f h ≡ Err (other_fault f)
no_borrow_not f (whole x) e = absurd cc
no_borrow_not f borrow_of e = refl
no_borrow_not f list_of e = absurd cc
no_borrow_not f option_of e = absurd cc
no_borrow_not f tuple_of e = absurd cc
no_borrow_not f result_of e = absurd cc

borrowless_not : (f : Form) (r : Result Start WitReason) → (is_ok r ≡ false → r ≡ Err (other_fault f)) → is_ok (borrowless f r) ≡ false → borrowless f r ≡ Err (other_fault f)
borrowless_not f (Ok h) p e = no_borrow_not f h e
borrowless_not f (Err r) p e = p refl

begins_not_in : (borrows : Bool) (f : Form) → is_ok (start_in borrows f) ≡ false → start_in borrows f ≡ Err (other_fault f)
begins_not_in true f e = begins_not f e
begins_not_in false f e = borrowless_not f (start_of f) (begins_not f) e

begins_some : (r : Result Start WitReason) → is_ok r ≡ true → too_deep r ≡ Err reason.TooDeep
begins_some (Ok h) e = refl
begins_some (Err r) e = absurd cc

pub deep_where_type : (borrows : Bool) (ts : List Token) → passes (begins_type_in borrows) (first ts) ≡ true → (ty borrows 0).reads ts ≡ Err (flaw ts reason.TooDeep)
unfolding ty
deep_where_type borrows [] e = absurd cc
deep_where_type borrows (t ∷ ts) e = rw (begins_some (start_in borrows t.form) e) refl

pub no_type_here : (borrows : Bool) (ts : List Token) → passes (begins_type_in borrows) (first ts) ≡ false → Fails ts (unexpected ts) ((ty borrows 0).reads ts)
unfolding ty
no_type_here borrows [] e = refl
no_type_here borrows (t ∷ ts) e = rw (begins_not_in borrows t.form e) refl
