-- What the tokens of every text have in common: an identifier is a label, and each run is whole.
use Rattle.std.proofs.Common.{◌≡◌, ℕ, zero, suc, ◌+◌, ◌-◌, ◌*◌, ◌^◌, ◌<◌, Bool, true, false, ◌==◌, if◌then◌else◌, List, [], ◌∷◌, ◌++◌, length, take, drop, Option, Some, None, IfSome, refl, ap, arith}
use Rattle.std.specs.Prelude.{nat_lt}
use Rattle.std.proofs.lemmas.Bool.Decides.{nat_tests}
use Rattle.std.specs.Option.{option_map, option_map_or}
use Rattle.std.specs.Char.{is_ascii_alphabetic, is_ascii_digit, is_ascii_alphanumeric}
use Rattle.cm_types.specs.Names.{is_label}
use Rattle.cm_types.specs.ExternNames.{is_version}
use Rattle.cm_wit_tokens.specs.declared.keyword.Keyword.{Keyword}
use Rattle.cm_wit_tokens.specs.declared.run.Run.{Run}
use Rattle.cm_wit_tokens.specs.declared.run.Run.TheVariants as run
use Rattle.cm_wit_tokens.specs.declared.token.Form.{Form}
use Rattle.cm_wit_tokens.specs.declared.token.Form.TheVariants as form
use Rattle.cm_wit_tokens.specs.declared.front.Front.{Front}
use Rattle.cm_wit_tokens.specs.declared.front.Front.TheVariants as front_is
use Rattle.cm_wit_tokens.specs.Keywords.{keyword_of}
use Rattle.cm_wit_tokens.specs.Operators.{operator_of}
use Rattle.cm_wit_tokens.specs.Comments.{opened, comment_length}
use Rattle.cm_wit_tokens.specs.Runs.{begins_alphanumeric, belongs, run_length, run_text}
use Rattle.cm_wit_tokens.specs.Tokens.{Lexed, identifier_form, version_form, from_digits, integer_of, token_front, operator_front, version_front, is_blank, slash_front, hyphen_front, front, front_behind, after_front, lexed_in, lexed}
use Rattle.cm_wit_package.proofs.Lexing.{forms}

-- a run that is all of its text
abbrev pub IsWhole : Run → List ℕ → Type 0
IsWhole k text = run_length k text ≡ length text

-- what a text's token of this form is
abbrev pub IsGood : Form → Type 0
IsGood (form.Operator o) = Unit {0}
IsGood (form.Keyword k) = Unit {0}
IsGood (form.Identifier word) = (is_label word ≡ true) × IsWhole run.Word word
IsGood (form.Version text) = (version_form text ≡ Some (form.Version text)) × IsWhole run.Version text
IsGood (form.Integer n) = n < 2 ^ 32

abbrev pub AreGood : List Form → Type 0
AreGood [] = Unit {0}
AreGood (f ∷ fs) = IsGood f × AreGood fs

-- ---- runs are whole

alphanumeric_belongs : (k : Run) (b : ℕ) (rest : List ℕ) → k ≡ run.Version → is_ascii_alphanumeric b ≡ true → belongs run.Version b rest ≡ true
alphanumeric_belongs k b rest e h = grind (arith, nat_tests)

run_first : (b : ℕ) (rest : List ℕ) → is_ascii_alphanumeric b ≡ true → run_text run.Version (b ∷ rest) ≡ b ∷ run_text run.Version rest
unfolding run_length
run_first b rest h = rw (alphanumeric_belongs run.Version b rest refl h) refl

begins_still : (rest : List ℕ) → begins_alphanumeric rest ≡ true → begins_alphanumeric (run_text run.Version rest) ≡ true
begins_still [] h = absurd cc
begins_still (c ∷ rest) h = rw (run_first c rest h) h

dot_still : (dot : Bool) (other : Bool) (rest : List ℕ) → (if dot then begins_alphanumeric rest else other) ≡ true → (if dot then begins_alphanumeric (run_text run.Version rest) else other) ≡ true
dot_still true other rest h = begins_still rest h
dot_still false other rest h = h

belongs_still : (k : Run) (b : ℕ) (rest : List ℕ) → belongs k b rest ≡ true → belongs k b (run_text k rest) ≡ true
belongs_still run.Word b rest h = h
belongs_still run.Digits b rest h = h
belongs_still run.Line b rest h = h
belongs_still run.Version b rest h = dot_still (b == 0x2E) _ rest h

nothing_taken : (n : ℕ) → length (take {A = ℕ} n []) ≡ 0
nothing_taken zero = refl
nothing_taken (suc n) = refl

whole_step : (k : Run) (b : ℕ) (rest : List ℕ) (goes : Bool) → belongs k b rest ≡ goes → IsWhole k (run_text k rest) → IsWhole k (run_text k (b ∷ rest))
unfolding run_length
whole_step k b rest true e h = rw e (rw (belongs_still k b rest e) (ap suc h))
whole_step k b rest false e h = rw e refl

pub run_is_whole : (k : Run) (text : List ℕ) → IsWhole k (run_text k text)
unfolding run_length
run_is_whole k [] = refl
run_is_whole k (b ∷ rest) = whole_step k b rest (belongs k b rest) refl (run_is_whole k rest)

-- ---- what a run stands for is good

if_some : (b : Bool) (f : Form) → (b ≡ true → IsGood f) → IfSome (if b then Some f else None) IsGood
if_some true f h = h refl
if_some false f h = tt

identifier_good : (word : List ℕ) → IsWhole run.Word word → IfSome (identifier_form word) IsGood
identifier_good word w = if_some (is_label word) (form.Identifier word) (λ e. (e, w))

word_by : (o : Option Keyword) (other : Option Form) → IfSome other IsGood → IfSome (option_map_or (λ k. Some (form.Keyword k)) o other) IsGood
word_by (Some k) other h = tt
word_by None other h = h

version_by : (b : ℕ) (bs : List ℕ) (is : Bool) → is_version (b ∷ bs) ≡ is → IsWhole run.Version (b ∷ bs) → IfSome (if is then Some (form.Version (b ∷ bs)) else None) IsGood
version_by b bs true e w = (rw e refl, w)
version_by b bs false e w = tt

version_good : (text : List ℕ) → IsWhole run.Version text → IfSome (version_form text) IsGood
version_good [] w = tt
version_good (b ∷ bs) w = version_by b bs (is_version (b ∷ bs)) refl w

abbrev Fits : ℕ → Type 0
Fits n = n < 2 ^ 32

digits_by : (fits : Bool) (n : ℕ) (ds : List ℕ) → nat_lt n (2 ^ 32) ≡ fits → ((m : ℕ) → m < 2 ^ 32 → IfSome (from_digits m ds) Fits) → IfSome (if fits then from_digits n ds else None) Fits
digits_by true n ds e h = h n (grind (arith, nat_tests))
digits_by false n ds e h = tt

digits_good : (ds : List ℕ) (n : ℕ) → n < 2 ^ 32 → IfSome (from_digits n ds) Fits
unfolding from_digits
digits_good [] n lt = lt
digits_good (d ∷ ds) n lt = digits_by (nat_lt (n * 10 + (d - 0x30)) (2 ^ 32)) _ ds refl (digits_good ds)

if_else : (b : Bool) (o : Option ℕ) → IfSome o Fits → IfSome (if b then None else o) Fits
if_else true o h = tt
if_else false o h = h

integer_fits : (ds : List ℕ) → IfSome (integer_of ds) Fits
integer_fits [] = digits_good [] 0 (omega arith)
integer_fits (d ∷ []) = digits_good (d ∷ []) 0 (omega arith)
integer_fits (d ∷ e ∷ ds) = if_else (d == 0x30) _ (digits_good (d ∷ e ∷ ds) 0 (omega arith))

integer_good : (o : Option ℕ) → IfSome o Fits → IfSome (option_map (λ n. form.Integer n) o) IsGood
integer_good None h = tt
integer_good (Some n) h = h

-- ---- what stands at the front of a text is good

abbrev GoodFront : Front → Type 0
GoodFront front_is.End = Unit {0}
GoodFront front_is.Bad = Unit {0}
GoodFront (front_is.Gap n) = Unit {0}
GoodFront (front_is.Token f n) = IsGood f

either : (b : Bool) (x y : Front) → GoodFront x → GoodFront y → GoodFront (if b then x else y)
either true x y p q = p
either false x y p q = q

token : (o : Option Form) (n : ℕ) → IfSome o IsGood → GoodFront (token_front o n)
token None n h = tt
token (Some f) n h = h

comment : (o : Option ℕ) → GoodFront (option_map_or (λ n. front_is.Gap (2 + n)) o front_is.Bad)
comment None = tt
comment (Some n) = tt

operator_good : (b : ℕ) → GoodFront (operator_front b)
operator_good b = operator_by (operator_of b)
  where
    operator_by : (o : _) → GoodFront (token_front (option_map (λ o. form.Operator o) o) 1)
    operator_by None = tt
    operator_by (Some o) = tt

slash : (rest : List ℕ) → GoodFront (slash_front rest)
slash [] = operator_good 0x2F
slash (b ∷ rest) = either (b == 0x2F) _ _ tt (either (b == 0x2A) _ _ (comment (comment_length opened rest)) (operator_good 0x2F))

hyphen : (rest : List ℕ) → GoodFront (hyphen_front rest)
hyphen [] = tt
hyphen (b ∷ rest) = either (b == 0x3E) _ _ tt tt

plain : (text : List ℕ) → GoodFront (front text)
plain [] = tt
plain (b ∷ rest) =
    either (is_blank b) _ _ tt (
    either (b == 0x2F) _ _ (slash rest) (
    either (b == 0x2D) _ _ (hyphen rest) (
    either (b == 0x25) _ _ (token _ _ (identifier_good _ (run_is_whole run.Word rest))) (
    either (is_ascii_alphabetic b) _ _ (token _ _ (word_by (keyword_of (run_text run.Word (b ∷ rest))) _ (identifier_good _ (run_is_whole run.Word (b ∷ rest))))) (
    either (is_ascii_digit b) _ _ (token _ _ (integer_good _ (integer_fits (run_text run.Digits (b ∷ rest))))) (operator_good b))))))

version : (text : List ℕ) → GoodFront (version_front text)
version [] = tt
version (b ∷ rest) = token _ _ (version_good _ (run_is_whole run.Version (b ∷ rest)))

front_good : (behind : Bool) (text : List ℕ) → GoodFront (front_behind behind text)
front_good true text = version text
front_good false text = plain text

-- ---- the tokens of a text are good

after_good : (lex : Bool → List ℕ → Lexed) (text : List ℕ) (p : Front) → GoodFront p → ((b : Bool) (rest : List ℕ) → AreGood (forms (lex b rest).tokens)) → AreGood (forms (after_front lex text p).tokens)
after_good lex text front_is.End g h = tt
after_good lex text front_is.Bad g h = tt
after_good lex text (front_is.Gap n) g h = h false (drop n text)
after_good lex text (front_is.Token f n) g h = (g, h _ (drop n text))

turns_good : (turns : ℕ) (behind : Bool) (text : List ℕ) → AreGood (forms (lexed_in turns behind text).tokens)
unfolding lexed_in
turns_good zero behind text = tt
turns_good (suc turns) behind text = after_good (lexed_in turns) text (front_behind behind text) (front_good behind text) (turns_good turns)

pub tokens_good : (text : List ℕ) → AreGood (forms (lexed text).tokens)
tokens_good text = turns_good (suc (length text)) false text

-- ---- parts of good tokens

pub good_front : (fs gs : List Form) → AreGood (fs ++ gs) → AreGood fs
good_front [] gs h = tt
good_front (f ∷ fs) gs h = (h.0, good_front fs gs h.1)

pub good_behind : (fs gs : List Form) → AreGood (fs ++ gs) → AreGood gs
good_behind [] gs h = h
good_behind (f ∷ fs) gs h = good_behind fs gs h.1
