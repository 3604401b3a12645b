-- Types, functions and paths are read again.
use Rattle.std.proofs.Common.{◌≡◌, ℕ, zero, suc, Bool, true, false, ◌&&◌, ◌||◌, not, List, [], ◌∷◌, ◌++◌, Option, Some, None, Result, Ok, Err, refl, sym, ap, append-nil}
use Rattle.cm_wit_tokens.specs.declared.keyword.Keyword.TheVariants as word
use Rattle.cm_wit_tokens.specs.declared.operator.Operator.{Operator}
use Rattle.cm_wit_tokens.specs.declared.operator.Operator.TheVariants as operator
use Rattle.cm_wit_tokens.specs.declared.token.Form.{Form}
use Rattle.cm_wit_tokens.specs.declared.token.Form.TheVariants as form
use Rattle.cm_wit_tokens.specs.Forms.{is_operator, is_keyword}
use Rattle.cm_wit_tokens.specs.declared.fault.WitReason.{WitReason}
use Rattle.cm_wit_tokens.specs.Grammar.{Grammar, done, chosen}
use Rattle.cm_wit_tokens.specs.Lists.{items}
use Rattle.cm_wit_tokens.specs.Parts.{expect}
use Rattle.cm_wit_reading.specs.Types.{Ty, borrow, list, fixed_list, option, tuple, plain_result, ok_result, error_result, result, types_from, Start, whole, borrow_of, list_of, option_of, tuple_of, result_of, start_of, no_borrow, borrowless, start_in, error_rest, rest_of, too_deep, ty, most_depth}
use Rattle.cm_wit_reading.specs.Signatures.{local, foreign, any_type, result_type, typed, params, func, optional_version, foreign_rest, path}
use Rattle.cm_wit_package.specs.TreeTokens.{mark, keyword, name_tokens, behind_commas, with_commas, type_tokens, types_tokens, further_types_tokens, typed_tokens, params_tokens, signature_tokens, version_tokens, path_tokens}
use Rattle.cm_wit_package.proofs.Chains.{Law, Chain, law, tail, bind, end, at, passing, failing, pick, table_law}
use Rattle.cm_wit_package.proofs.ListLaws.{expect_law, begins_word, any, name_law, any_name, weaken, anyhow, length_law, version_law}
use Rattle.cm_wit_package.proofs.ItemLaws.{hot, calm, closed, Closes, items_law}

-- ---- what stands behind

cold : (a b : Bool) → not (a || b) ≡ true → ((not a && true) ≡ true) × (not b ≡ true)
cold true b h = absurd cc
cold false b h = (refl, h)

last_cold : (a : Bool) → not a ≡ true → (not a && true) ≡ true
last_cold true h = absurd cc
last_cold false h = refl

pub no_less : (n : Option Form) → calm n ≡ true → failing (is_operator operator.LessThan) any n ≡ true
no_less None h = refl
no_less (Some f) h = (cold (is_operator operator.LessThan f) _ h).0

pub no_arrow : (n : Option Form) → calm n ≡ true → failing (is_operator operator.Arrow) any n ≡ true
no_arrow None h = refl
no_arrow (Some f) h = (cold (is_operator operator.Arrow f) _ (cold (is_operator operator.LessThan f) _ h).1).0

pub no_colon : (n : Option Form) → calm n ≡ true → failing (is_operator operator.Colon) any n ≡ true
no_colon None h = refl
no_colon (Some f) h = (cold (is_operator operator.Colon f) _ (cold (is_operator operator.Arrow f) _ (cold (is_operator operator.LessThan f) _ h).1).1).0

pub no_at : (n : Option Form) → calm n ≡ true → failing (is_operator operator.At) any n ≡ true
no_at None h = refl
no_at (Some f) h = (cold (is_operator operator.At f) _ (cold (is_operator operator.Colon f) _ (cold (is_operator operator.Arrow f) _ (cold (is_operator operator.LessThan f) _ h).1).1).1).0

behind_at : (f : Form) → not (hot f) ≡ true → not (is_operator operator.LeftParenthesis f || is_keyword word.As f) ≡ true
behind_at f h = (cold (is_operator operator.At f) _ (cold (is_operator operator.Colon f) _ (cold (is_operator operator.Arrow f) _ (cold (is_operator operator.LessThan f) _ h).1).1).1).1

pub no_parenthesis : (n : Option Form) → calm n ≡ true → failing (is_operator operator.LeftParenthesis) any n ≡ true
no_parenthesis None h = refl
no_parenthesis (Some f) h = (cold (is_operator operator.LeftParenthesis f) _ (behind_at f h)).0

pub no_as : (n : Option Form) → calm n ≡ true → failing (is_keyword word.As) any n ≡ true
no_as None h = refl
no_as (Some f) h = last_cold (is_keyword word.As f) (cold (is_operator operator.LeftParenthesis f) _ (behind_at f h)).1

-- a word is no operator
pub word_apart : (o : Operator) (n : Option Form) → begins_word n ≡ true → closed o n ≡ false
word_apart o None h = refl
word_apart o (Some (form.Identifier w)) h = refl
word_apart o (Some (form.Keyword k)) h = refl
word_apart o (Some (form.Operator p)) h = absurd cc
word_apart o (Some (form.Version v)) h = refl
word_apart o (Some (form.Integer i)) h = refl

pub word_fails : (o : Operator) (n : Option Form) → begins_word n ≡ true → failing (is_operator o) any n ≡ true
word_fails o n h = rw (word_apart o n h) refl

passing_any : (test : Form → Bool) (n : Option Form) → at test n ≡ true → passing test any n ≡ true
passing_any test n h = rw h refl

-- ---- what begins a type

abbrev pub table_ok : {K : Type 0} → K → Result K WitReason
table_ok k = Ok k

pub head_is : {K : Type 0} (x y : K) → table_ok x ≡ table_ok y → x ≡ y
head_is x y e = cc

abbrev start_tokens : Start → List Form
start_tokens (whole x) = type_tokens x
start_tokens borrow_of = keyword word.Borrow
start_tokens list_of = keyword word.List
start_tokens option_of = keyword word.Option
start_tokens tuple_of = keyword word.Tuple
start_tokens result_of = keyword word.Result

start_is : (f : Form) (h : Start) → start_of f ≡ Ok h → start_tokens h ≡ f ∷ []
start_is (form.Identifier w) h e = ap start_tokens (sym (head_is _ h e))
start_is (form.Keyword word.Bool) h e = ap start_tokens (sym (head_is _ h e))
start_is (form.Keyword word.S8) h e = ap start_tokens (sym (head_is _ h e))
start_is (form.Keyword word.S16) h e = ap start_tokens (sym (head_is _ h e))
start_is (form.Keyword word.S32) h e = ap start_tokens (sym (head_is _ h e))
start_is (form.Keyword word.S64) h e = ap start_tokens (sym (head_is _ h e))
start_is (form.Keyword word.U8) h e = ap start_tokens (sym (head_is _ h e))
start_is (form.Keyword word.U16) h e = ap start_tokens (sym (head_is _ h e))
start_is (form.Keyword word.U32) h e = ap start_tokens (sym (head_is _ h e))
start_is (form.Keyword word.U64) h e = ap start_tokens (sym (head_is _ h e))
start_is (form.Keyword word.Char) h e = ap start_tokens (sym (head_is _ h e))
start_is (form.Keyword word.String) h e = ap start_tokens (sym (head_is _ h e))
start_is (form.Keyword word.Borrow) h e = ap start_tokens (sym (head_is _ h e))
start_is (form.Keyword word.List) h e = ap start_tokens (sym (head_is _ h e))
start_is (form.Keyword word.Option) h e = ap start_tokens (sym (head_is _ h e))
start_is (form.Keyword word.Tuple) h e = ap start_tokens (sym (head_is _ h e))
start_is (form.Keyword word.Result) h e = ap start_tokens (sym (head_is _ h e))
start_is f h e = absurd cc

start_begins : (f : Form) (h : Start) → start_of f ≡ Ok h → begins_word (Some f) ≡ true
start_begins (form.Identifier w) h e = refl
start_begins (form.Keyword k) h e = refl
start_begins (form.Operator o) h e = absurd cc
start_begins (form.Version v) h e = absurd cc
start_begins (form.Integer i) h e = absurd cc

no_borrow_ok : (f : Form) (s h : Start) → no_borrow f s ≡ Ok h → table_ok s ≡ Ok h
no_borrow_ok f (whole x) h e = e
no_borrow_ok f borrow_of h e = absurd cc
no_borrow_ok f list_of h e = e
no_borrow_ok f option_of h e = e
no_borrow_ok f tuple_of h e = e
no_borrow_ok f result_of h e = e

borrowless_ok : (f : Form) (r : Result Start WitReason) (h : Start) → borrowless f r ≡ Ok h → r ≡ Ok h
borrowless_ok f (Ok s) h e = no_borrow_ok f s h e
borrowless_ok f (Err r) h e = absurd cc

in_is : (borrows : Bool) (f : Form) (h : Start) → start_in borrows f ≡ Ok h → start_of f ≡ Ok h
in_is true f h e = e
in_is false f h e = borrowless_ok f (start_of f) h e

deep_is : (r : Result Start WitReason) (x : Ty) → too_deep r ≡ Ok x → ⊥
deep_is (Ok h) x e = absurd cc
deep_is (Err r) x e = absurd cc

-- ---- types

types_further : (xs : List Ty) → further_types_tokens (types_from xs) ≡ behind_commas type_tokens xs
types_further [] = refl
types_further (x ∷ xs) = ap (λ (z : List Form). mark operator.Comma ++ (type_tokens x ++ z)) (types_further xs)

types_all : (xs : List Ty) → types_tokens (types_from xs) ≡ with_commas type_tokens xs
types_all [] = refl
types_all (x ∷ xs) = ap (λ (z : List Form). type_tokens x ++ z) (types_further xs)

pub closes_angle : Closes operator.GreaterThan
closes_angle = record { no_comma = refl; ends_calm = refl }

pub closes_parenthesis : Closes operator.RightParenthesis
closes_parenthesis = record { no_comma = refl; ends_calm = refl }

pub closes_brace : Closes operator.RightBrace
closes_brace = record { no_comma = refl; ends_calm = refl }

less : (S : Option Form → Bool) → S (Some (form.Operator operator.LessThan)) ≡ true → Law (expect operator.LessThan) (λ (u : Unit {0}). mark operator.LessThan) S any
less S h = expect_law operator.LessThan S any h

angle : (S : Option Form → Bool) → S (Some (form.Operator operator.GreaterThan)) ≡ true → Law (expect operator.GreaterThan) (λ (u : Unit {0}). mark operator.GreaterThan) S any
angle S h = expect_law operator.GreaterThan S any h

module _ (t : Grammar Ty) (l : Law t type_tokens begins_word calm) where
  error_chain : (x : Ty) → Chain (error_rest t x) (λ z. keyword word.Result ++ (mark operator.LessThan ++ (type_tokens x ++ z))) type_tokens calm calm
  error_chain x =
      pick (is_operator operator.Comma)
      (bind any (expect_law operator.Comma (passing (is_operator operator.Comma) calm) any refl) (λ _. bind calm (anyhow l) (λ y. bind any (angle calm refl) (λ _. end (result x y) (λ n h. refl) refl))))
      (bind any (angle (failing (is_operator operator.Comma) calm) refl) (λ _. end (ok_result x) (λ n h. refl) refl))

  rest_chain : (h : Start) → Chain (rest_of t h) (λ z. start_tokens h ++ z) type_tokens any calm
  rest_chain (whole x) = end x (λ n h. refl) (sym (append-nil (type_tokens x)))
  rest_chain borrow_of = bind any (less any refl) (λ _. bind any (any_name any) (λ r. bind any (angle any refl) (λ _. end (borrow r) (λ n h. refl) refl)))
  rest_chain list_of = bind any (less any refl) (λ _. bind calm (anyhow l) (λ x.
      pick (is_operator operator.Comma)
      (bind any (expect_law operator.Comma (passing (is_operator operator.Comma) calm) any refl) (λ _. bind any (length_law any) (λ k. bind any (angle any refl) (λ _. end (fixed_list x k) (λ n h. refl) refl))))
      (bind any (angle (failing (is_operator operator.Comma) calm) refl) (λ _. end (list x) (λ n h. refl) refl))))
  rest_chain option_of = bind any (less any refl) (λ _. bind calm (anyhow l) (λ x. bind any (angle calm refl) (λ _. end (option x) (λ n h. refl) refl)))
  rest_chain tuple_of = bind any (less any refl) (λ _. bind (closed operator.GreaterThan) (anyhow (items_law operator.GreaterThan t type_tokens begins_word closes_angle l (word_apart operator.GreaterThan))) (λ xs. bind any (angle (closed operator.GreaterThan) refl) (λ _. end (tuple (types_from xs)) (λ n h. refl) (ap (λ (z : List Form). keyword word.Tuple ++ (mark operator.LessThan ++ (z ++ mark operator.GreaterThan))) (types_all xs)))))
  rest_chain result_of =
      pick (is_operator operator.LessThan)
      (bind any (less (passing (is_operator operator.LessThan) any) refl) (λ _.
      pick (is_operator operator.Underscore)
      (bind any (expect_law operator.Underscore (passing (is_operator operator.Underscore) any) any refl) (λ _. bind any (expect_law operator.Comma any any refl) (λ _. bind calm (anyhow l) (λ y. bind any (angle calm refl) (λ _. end (error_result y) (λ n h. refl) refl)))))
      (bind calm (weaken (failing (is_operator operator.Underscore) any) (word_fails operator.Underscore) l) error_chain)))
      (end plain_result no_less refl)

pub ty_law : (borrows : Bool) (room : ℕ) → Law (ty borrows room) type_tokens begins_word calm
unfolding ty
ty_law borrows zero = table_law _ _ begins_word calm (λ f x e. absurd (deep_is (start_in borrows f) x e))
ty_law borrows (suc room) = law (bind any (table_law (start_in borrows) start_tokens begins_word any (λ f h e. let s = in_is borrows f h e in (start_is f h s, start_begins f h s))) (λ h. rest_chain (ty borrows room) (ty_law borrows room) h))

pub any_type_law : Law any_type type_tokens begins_word calm
any_type_law = ty_law true most_depth

result_type_law : Law result_type type_tokens begins_word calm
result_type_law = ty_law false most_depth

-- ---- functions and paths

pub typed_law : Law typed typed_tokens begins_word calm
typed_law = law (bind any (name_law begins_word any (λ w. refl)) (λ name. bind any (expect_law operator.Colon any any refl) (λ _. bind calm (anyhow any_type_law) (λ t. end (name, t) (λ n h. h) (rw (append-nil (type_tokens t)) refl)))))

params_inner : Law (chosen (is_operator operator.RightParenthesis) (done []) (items operator.RightParenthesis typed)) (with_commas typed_tokens) any (closed operator.RightParenthesis)
params_inner = law (pick (is_operator operator.RightParenthesis)
    (end [] (passing_any (is_operator operator.RightParenthesis)) refl)
    (tail (weaken (failing (is_operator operator.RightParenthesis) any) (word_fails operator.RightParenthesis) (items_law operator.RightParenthesis typed typed_tokens begins_word closes_parenthesis typed_law (word_apart operator.RightParenthesis))) (λ xs. refl)))

pub params_law : Law params params_tokens any any
params_law = law (bind any (expect_law operator.LeftParenthesis any any refl) (λ _. bind (closed operator.RightParenthesis) params_inner (λ xs. bind any (expect_law operator.RightParenthesis (closed operator.RightParenthesis) any refl) (λ _. end xs (λ n h. refl) refl))))

pub func_law : Law func signature_tokens any calm
func_law = law (bind any params_law (λ xs. pick (is_operator operator.Arrow)
    (bind any (expect_law operator.Arrow (passing (is_operator operator.Arrow) any) any refl) (λ _. bind calm (anyhow result_type_law) (λ t. end (record { params = xs; result = Some t }) (λ n h. h) (rw (append-nil (type_tokens t)) refl))))
    (end (record { params = xs; result = None }) no_arrow refl)))

pub version_part : Law optional_version version_tokens any calm
version_part = law (pick (is_operator operator.At)
    (bind any (expect_law operator.At (passing (is_operator operator.At) any) any refl) (λ _. bind any (version_law any) (λ v. end (Some v) (λ n h. refl) refl)))
    (end None no_at refl))

pub foreign_chain : (S : Option Form → Bool) → ((w : List ℕ) → S (Some (form.Identifier w)) ≡ true) → (ns : List ℕ) → Chain (foreign_rest ns) (λ z. name_tokens ns ++ (mark operator.Colon ++ z)) path_tokens S calm
foreign_chain S s ns = bind any (name_law S any s) (λ pkg. bind any (expect_law operator.Slash any any refl) (λ _. bind any (any_name any) (λ name. bind calm version_part (λ v. end (foreign ns pkg name v) (λ n h. h) (rw (append-nil (version_tokens v)) refl)))))

pub path_law : Law path path_tokens any calm
path_law = law (bind any (any_name any) (λ name. pick (is_operator operator.Colon)
    (bind any (expect_law operator.Colon (passing (is_operator operator.Colon) any) any refl) (λ _. foreign_chain any (λ w. refl) name))
    (end (local name) no_colon refl)))
