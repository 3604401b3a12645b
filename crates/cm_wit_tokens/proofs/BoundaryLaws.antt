-- What stands at the front of a text ends where one of its characters does.
use Rattle.std.proofs.Common.{◌≡◌, ℕ, suc, ◌+◌, ◌-◌, ◌<◌, ◌≤◌, nat_le, Bool, true, false, ◌==◌, ◌&&◌, not, if◌then◌else◌, List, [], ◌∷◌, ◌≢◌, length, take, get_or, Option, Some, None, IfSome, refl, sym, ap, subst, ◌∙◌, arith}
use Rattle.std.specs.Option.{option_map, option_map_or}
use Rattle.std.specs.Char.{is_ascii_alphabetic, is_ascii_digit}
use Rattle.std.specs.Str.{IsUtf8, IsCharBoundary}
use Rattle.std.proofs.lemmas.Bool.Decides.{nat_tests}
use Rattle.std.proofs.lemmas.Str.{IsCharBoundary-after_ascii, IsCharBoundary-from_take, IsUtf8-from_ascii}
use Rattle.cm_lemmas.proofs.Bools.{both_true}
use Rattle.cm_lemmas.proofs.Numbers.{eq_of}
use Rattle.cm_wit_tokens.specs.declared.run.Run.{Run}
use Rattle.cm_wit_tokens.specs.declared.run.Run.TheVariants as run
use Rattle.cm_wit_tokens.specs.declared.comment.Inside.{Inside}
use Rattle.cm_wit_tokens.specs.declared.operator.Operator.{Operator}
use Rattle.cm_wit_tokens.specs.declared.token.Form.{Form}
use Rattle.cm_wit_tokens.specs.declared.token.Form.TheVariants as form
use Rattle.cm_wit_tokens.specs.declared.front.Front.{Front}
use Rattle.cm_wit_tokens.specs.declared.front.Front.TheVariants as front_is
use Rattle.cm_wit_tokens.specs.Operators.{operator_of}
use Rattle.cm_wit_tokens.specs.Comments.{inside, opened, after_byte, comment_length}
use Rattle.cm_wit_tokens.specs.Runs.{belongs, run_length, run_text}
use Rattle.cm_wit_tokens.specs.Tokens.{identifier_form, word_form, version_form, integer_of, token_front, version_front, is_blank, slash_front, hyphen_front, front, front_behind, EndsAtChar}
use Rattle.cm_wit_tokens.proofs.RunLaws.{run_within, run_ascii, first_goes, more_ascii, run_empty}

-- ---- behind bytes that are ASCII

pub behind_first : (b : ℕ) (rest : List ℕ) → IsUtf8 (b ∷ rest) → b < 128 → IsCharBoundary (b ∷ rest) 1
behind_first b rest utf8 lt = IsCharBoundary-after_ascii (b ∷ rest) 0 utf8 (omega arith) lt

behind_second : (b c : ℕ) (rest : List ℕ) → IsUtf8 (b ∷ c ∷ rest) → c < 128 → IsCharBoundary (b ∷ c ∷ rest) 2
behind_second b c rest utf8 lt = IsCharBoundary-after_ascii (b ∷ c ∷ rest) 1 utf8 (omega arith) lt

is_ascii : (b n : ℕ) → n < 128 → (b == n) ≡ true → b < 128
is_ascii b n lt e = omega (arith, lt, eq_of b n e)

-- ---- behind a run

pub behind_run : (k : Run) (text : List ℕ) → k ≢ run.Line → IsUtf8 text → IsCharBoundary text (run_length k text)
behind_run k text some utf8 = IsCharBoundary-from_take text (run_length k text) utf8 (run_within k text) (IsUtf8-from_ascii (take (run_length k text) text) (run_ascii k text some))

word_is_no_line : run.Word ≢ run.Line
word_is_no_line e = cc

digits_are_no_line : run.Digits ≢ run.Line
digits_are_no_line e = cc

version_is_no_line : run.Version ≢ run.Line
version_is_no_line e = cc

behind_escaped : (b : ℕ) (rest : List ℕ) → IsUtf8 (b ∷ rest) → b < 128 → IsCharBoundary (b ∷ rest) (1 + run_length run.Word rest)
behind_escaped b rest utf8 lt =
    let n = run_length run.Word rest in
    let ascii = more_ascii b (take n rest) lt (run_ascii run.Word rest word_is_no_line) in
    let at = IsCharBoundary-from_take (b ∷ rest) (suc n) utf8 (omega (arith, run_within run.Word rest)) (IsUtf8-from_ascii (b ∷ take n rest) ascii) in
    subst (λ (m : ℕ). IsCharBoundary (b ∷ rest) m) (omega arith) at

-- a line ends before a line feed, or where the text does
line_step : (b : ℕ) (rest : List ℕ) (goes : Bool) → belongs run.Line b rest ≡ goes → (run_length run.Line rest < length rest → get_or rest (run_length run.Line rest) 0 ≡ 10) → run_length run.Line (b ∷ rest) < length (b ∷ rest) → get_or (b ∷ rest) (run_length run.Line (b ∷ rest)) 0 ≡ 10
line_step b rest true e h lt =
    let longer = first_goes run.Line b rest e in
    ap (λ (n : ℕ). get_or (b ∷ rest) n 0) longer ∙ h (omega (arith, lt, longer))
line_step b rest false e h lt =
    ap (λ (n : ℕ). get_or (b ∷ rest) n 0) (run_empty run.Line b rest e) ∙ by (b == 10) refl e
  where
    by : (t : Bool) → (b == 10) ≡ t → not t ≡ false → b ≡ 10
    by true q f = eq_of b 10 q
    by false q f = absurd cc

line_end : (rest : List ℕ) → run_length run.Line rest < length rest → get_or rest (run_length run.Line rest) 0 ≡ 10
line_end [] lt = absurd (omega (arith, lt))
line_end (b ∷ rest) lt = line_step b rest (belongs run.Line b rest) refl (line_end rest) lt

behind_line : (b c : ℕ) (rest : List ℕ) → IsCharBoundary (b ∷ c ∷ rest) (2 + run_length run.Line rest)
behind_line b c rest =
    let n = run_length run.Line rest in
    let at : IsCharBoundary (b ∷ c ∷ rest) (suc (suc n)) = (
      omega (arith, run_within run.Line rest),
      λ lt high. absurd (feed n high (line_end rest (omega (arith, lt)))),
    ) in
    subst (λ (m : ℕ). IsCharBoundary (b ∷ c ∷ rest) m) (omega arith) at
  where
    feed : (n : ℕ) → 128 ≤ get_or rest n 0 → get_or rest n 0 ≡ 10 → ⊥
    feed n high e = omega (arith, high, e)

-- ---- behind a comment

-- so many bytes of a text end with one that is ASCII
record EndsAscii (text : List ℕ) (n : ℕ) : Type 0 where
  before : ℕ
  is : n ≡ suc before
  within : before < length text
  ascii : get_or text before 0 < 128

some_none : (at : Inside) → Some at ≡ None → ⊥
some_none at e = cc

ends_at_slash : (at : Inside) (b : ℕ) → after_byte at b ≡ None → b < 128
ends_at_slash at b e = by ((at.last == 42) && (b == 47)) ((at.last == 47) && (b == 42)) refl refl
  where
    by : (s t : Bool) → ((at.last == 42) && (b == 47)) ≡ s → ((at.last == 47) && (b == 42)) ≡ t → b < 128
    by true t p q = is_ascii b 47 (omega arith) (both_true (at.last == 42) (b == 47) p).1
    by false true p q = is_ascii b 42 (omega arith) (both_true (at.last == 47) (b == 42) q).1
    by false false p q = absurd (some_none (inside at.depth b) (sym (ap (λ t. if t then if nat_le at.depth 1 then None else Some (inside (at.depth - 1) 32) else if (at.last == 47) && (b == 42) then Some (inside (at.depth + 1) 32) else Some (inside at.depth b)) p ∙ ap (λ t. if t then Some (inside (at.depth + 1) 32) else Some (inside at.depth b)) q) ∙ e))

comment_step : (b : ℕ) (rest : List ℕ) (o : Option ℕ) → IfSome o (EndsAscii rest) → IfSome (option_map suc o) (EndsAscii (b ∷ rest))
comment_step b rest None h = h
comment_step b rest (Some n) h = record {
  before = suc h.before;
  is = ap (λ (k : ℕ). suc k) h.is;
  within = omega (arith, h.within);
  ascii = h.ascii;
}

comment_by : (at : Inside) (b : ℕ) (rest : List ℕ) (next : Option Inside) → after_byte at b ≡ next → ((at : Inside) → IfSome (comment_length at rest) (EndsAscii rest)) → IfSome (option_map_or (λ next. option_map suc (comment_length next rest)) next (Some 1)) (EndsAscii (b ∷ rest))
comment_by at b rest None e h = record {
  before = 0;
  is = refl;
  within = omega arith;
  ascii = ends_at_slash at b e;
}
comment_by at b rest (Some next) e h = comment_step b rest (comment_length next rest) (h next)

comment_end : (text : List ℕ) (at : Inside) → IfSome (comment_length at text) (EndsAscii text)
unfolding comment_length
comment_end [] at = tt
comment_end (b ∷ rest) at = comment_by at b rest (after_byte at b) refl (comment_end rest)

behind_comment : (b c : ℕ) (rest : List ℕ) (n : ℕ) → IsUtf8 (b ∷ c ∷ rest) → EndsAscii rest n → IsCharBoundary (b ∷ c ∷ rest) (2 + n)
behind_comment b c rest n utf8 h =
    let at = IsCharBoundary-after_ascii (b ∷ c ∷ rest) (suc (suc h.before)) utf8 (omega (arith, h.within)) h.ascii in
    subst (λ (m : ℕ). IsCharBoundary (b ∷ c ∷ rest) m) (omega (arith, h.is)) at

-- ---- what a text begins with

either : (b : Bool) (x y : Front) (text : List ℕ) → (b ≡ true → EndsAtChar x text) → (b ≡ false → EndsAtChar y text) → EndsAtChar (if b then x else y) text
either true x y text p q = p refl
either false x y text p q = q refl

token : (o : Option Form) (n : ℕ) (text : List ℕ) → IsCharBoundary text n → EndsAtChar (token_front o n) text
token None n text h = tt
token (Some f) n text h = h

comment : (o : Option ℕ) (b c : ℕ) (rest : List ℕ) → IsUtf8 (b ∷ c ∷ rest) → IfSome o (EndsAscii rest) → EndsAtChar (option_map_or (λ n. front_is.Gap (2 + n)) o front_is.Bad) (b ∷ c ∷ rest)
comment None b c rest utf8 h = tt
comment (Some n) b c rest utf8 h = behind_comment b c rest n utf8 h

-- an operator is ASCII
mark : (b n : ℕ) (o : Operator) (others : Option Operator) → n < 128 → IfSome others (λ _. b < 128) → IfSome (if b == n then Some o else others) (λ _. b < 128)
mark b n o others lt h = by (b == n) refl
  where
    by : (t : Bool) → (b == n) ≡ t → IfSome (if t then Some o else others) (λ _. b < 128)
    by true e = is_ascii b n lt e
    by false e = h

operator_ascii : (b : ℕ) → IfSome (operator_of b) (λ _. b < 128)
operator_ascii b =
    mark b 61 _ _ (omega arith) (mark b 44 _ _ (omega arith) (mark b 58 _ _ (omega arith) (mark b 59 _ _ (omega arith)
    (mark b 40 _ _ (omega arith) (mark b 41 _ _ (omega arith) (mark b 123 _ _ (omega arith) (mark b 125 _ _ (omega arith)
    (mark b 60 _ _ (omega arith) (mark b 62 _ _ (omega arith) (mark b 47 _ _ (omega arith) (mark b 46 _ _ (omega arith)
    (mark b 64 _ _ (omega arith) (mark b 95 _ _ (omega arith) tt)))))))))))))

operator_by : (b : ℕ) (rest : List ℕ) (o : Option Operator) → IsUtf8 (b ∷ rest) → IfSome o (λ _. b < 128) → EndsAtChar (token_front (option_map (λ o. form.Operator o) o) 1) (b ∷ rest)
operator_by b rest None utf8 h = tt
operator_by b rest (Some o) utf8 h = behind_first b rest utf8 h

slash : (b : ℕ) (rest : List ℕ) → IsUtf8 (b ∷ rest) → b < 128 → EndsAtChar (slash_front rest) (b ∷ rest)
slash b [] utf8 lt = behind_first b [] utf8 lt
slash b (c ∷ rest) utf8 lt =
    either (c == 47) _ _ (b ∷ c ∷ rest)
    (λ e. behind_line b c rest)
    (λ e. either (c == 42) _ _ (b ∷ c ∷ rest)
    (λ e. comment (comment_length opened rest) b c rest utf8 (comment_end rest opened))
    (λ e. behind_first b (c ∷ rest) utf8 lt))

hyphen : (b : ℕ) (rest : List ℕ) → IsUtf8 (b ∷ rest) → EndsAtChar (hyphen_front rest) (b ∷ rest)
hyphen b [] utf8 = tt
hyphen b (c ∷ rest) utf8 = either (c == 62) _ _ (b ∷ c ∷ rest) (λ e. behind_second b c rest utf8 (is_ascii c 62 (omega arith) e)) (λ e. tt)

blank_ascii : (b : ℕ) → is_blank b ≡ true → b < 128
blank_ascii b e = grind (arith, nat_tests)

plain : (text : List ℕ) → IsUtf8 text → EndsAtChar (front text) text
plain [] utf8 = tt
plain (b ∷ rest) utf8 =
    either (is_blank b) _ _ (b ∷ rest) (λ e. behind_first b rest utf8 (blank_ascii b e)) (λ e.
    either (b == 47) _ _ (b ∷ rest) (λ e. slash b rest utf8 (is_ascii b 47 (omega arith) e)) (λ e.
    either (b == 45) _ _ (b ∷ rest) (λ e. hyphen b rest utf8) (λ e.
    either (b == 37) _ _ (b ∷ rest) (λ e. token (identifier_form (run_text run.Word rest)) (1 + run_length run.Word rest) (b ∷ rest) (behind_escaped b rest utf8 (is_ascii b 37 (omega arith) e))) (λ e.
    either (is_ascii_alphabetic b) _ _ (b ∷ rest) (λ e. token (word_form (run_text run.Word (b ∷ rest))) (run_length run.Word (b ∷ rest)) (b ∷ rest) (behind_run run.Word (b ∷ rest) word_is_no_line utf8)) (λ e.
    either (is_ascii_digit b) _ _ (b ∷ rest) (λ e. token (option_map (λ n. form.Integer n) (integer_of (run_text run.Digits (b ∷ rest)))) (run_length run.Digits (b ∷ rest)) (b ∷ rest) (behind_run run.Digits (b ∷ rest) digits_are_no_line utf8)) (λ e.
    operator_by b rest (operator_of b) utf8 (operator_ascii b)))))))

version : (text : List ℕ) → IsUtf8 text → EndsAtChar (version_front text) text
version [] utf8 = tt
version (b ∷ rest) utf8 = token (version_form (run_text run.Version (b ∷ rest))) (run_length run.Version (b ∷ rest)) (b ∷ rest) (behind_run run.Version (b ∷ rest) version_is_no_line utf8)

pub front_ends : (behind_at : Bool) (text : List ℕ) → IsUtf8 text → EndsAtChar (front_behind behind_at text) text
front_ends true text utf8 = version text utf8
front_ends false text utf8 = plain text utf8

-- a text whose first byte is ASCII
pub first_ends : (text : List ℕ) → IsUtf8 text → 0 < length text → get_or text 0 0 < 128 → IsCharBoundary text 1
first_ends text utf8 some lt = IsCharBoundary-after_ascii text 0 utf8 some lt

-- a gap
pub gap_ends : (behind_at : Bool) (text : List ℕ) (n : ℕ) → IsUtf8 text → front_behind behind_at text ≡ front_is.Gap n → IsCharBoundary text n
gap_ends behind_at text n utf8 e = subst (λ (f : Front). EndsAtChar f text) e (front_ends behind_at text utf8)
