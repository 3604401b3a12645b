-- What stands at the front of a text has a byte, and is not more than the text.
use Rattle.std.proofs.Common.{◌≡◌, ℕ, ◌+◌, ◌<◌, ◌≤◌, Bool, true, false, ◌==◌, if◌then◌else◌, List, [], ◌∷◌, length, Option, Some, None, IfSome, refl, arith}
use Rattle.std.specs.Option.{option_map, option_map_or}
use Rattle.std.specs.Char.{is_ascii_alphabetic, is_ascii_digit}
use Rattle.std.proofs.lemmas.Bool.Decides.{nat_tests}
use Rattle.cm_wit_tokens.specs.declared.run.Run.TheVariants as run
use Rattle.cm_wit_tokens.specs.declared.token.Form.{Form}
use Rattle.cm_wit_tokens.specs.declared.token.Form.TheVariants as form
use Rattle.cm_wit_tokens.specs.declared.front.Front.{Front}
use Rattle.cm_wit_tokens.specs.declared.front.Front.TheVariants as front_is
use Rattle.cm_wit_tokens.specs.Operators.{operator_of}
use Rattle.cm_wit_tokens.specs.Comments.{opened, comment_length}
use Rattle.cm_wit_tokens.specs.Runs.{belongs, run_length, run_text}
use Rattle.cm_wit_tokens.specs.Tokens.{identifier_form, word_form, version_form, integer_of, token_front, operator_front, version_front, is_blank, slash_front, hyphen_front, front, front_behind, IsWithin}
use Rattle.cm_wit_tokens.proofs.RunLaws.{run_within, run_some, run_empty}
use Rattle.cm_wit_tokens.proofs.CommentLaws.{comment_within}

either : (b : Bool) (x y : Front) (text : List ℕ) → (b ≡ true → IsWithin x text) → (b ≡ false → IsWithin y text) → IsWithin (if b then x else y) text
either true x y text p q = p refl
either false x y text p q = q refl

token : (o : Option Form) (n : ℕ) (text : List ℕ) → 0 < n → n ≤ length text → IsWithin (token_front o n) text
token None n text some fits = tt
token (Some f) n text some fits = (some, fits)

comment : (o : Option ℕ) (b c : ℕ) (rest : List ℕ) → IfSome o (λ n. n ≤ length rest) → IsWithin (option_map_or (λ n. front_is.Gap (2 + n)) o front_is.Bad) (b ∷ c ∷ rest)
comment None b c rest h = tt
comment (Some n) b c rest h = (omega arith, omega (arith, h))

operator : (b c : ℕ) (rest : List ℕ) → IsWithin (operator_front b) (c ∷ rest)
operator b c rest = token (option_map (λ o. form.Operator o) (operator_of b)) 1 (c ∷ rest) (omega arith) (omega arith)

slash : (b : ℕ) (rest : List ℕ) → IsWithin (slash_front rest) (b ∷ rest)
slash b [] = operator 47 b []
slash b (c ∷ rest) =
    either (c == 47) _ _ (b ∷ c ∷ rest)
    (λ e. (omega arith, omega (arith, run_within run.Line rest)))
    (λ e. either (c == 42) _ _ (b ∷ c ∷ rest) (λ e. comment (comment_length opened rest) b c rest (comment_within rest opened)) (λ e. operator 47 b (c ∷ rest)))

hyphen : (b : ℕ) (rest : List ℕ) → IsWithin (hyphen_front rest) (b ∷ rest)
hyphen b [] = tt
hyphen b (c ∷ rest) = either (c == 62) _ _ (b ∷ c ∷ rest) (λ e. (omega arith, omega arith)) (λ e. tt)

letter_belongs : (b : ℕ) (rest : List ℕ) → is_ascii_alphabetic b ≡ true → belongs run.Word b rest ≡ true
letter_belongs b rest h = grind (arith, nat_tests)

plain : (text : List ℕ) → IsWithin (front text) text
plain [] = tt
plain (b ∷ rest) =
    either (is_blank b) _ _ (b ∷ rest) (λ e. (omega arith, omega arith)) (λ e.
    either (b == 47) _ _ (b ∷ rest) (λ e. slash b rest) (λ e.
    either (b == 45) _ _ (b ∷ rest) (λ e. hyphen b rest) (λ e.
    either (b == 37) _ _ (b ∷ rest) (λ e. token (identifier_form (run_text run.Word rest)) (1 + run_length run.Word rest) (b ∷ rest) (omega arith) (omega (arith, run_within run.Word rest))) (λ e.
    either (is_ascii_alphabetic b) _ _ (b ∷ rest) (λ e. token (word_form (run_text run.Word (b ∷ rest))) (run_length run.Word (b ∷ rest)) (b ∷ rest) (run_some run.Word b rest (letter_belongs b rest e)) (run_within run.Word (b ∷ rest))) (λ e.
    either (is_ascii_digit b) _ _ (b ∷ rest) (λ e. token (option_map (λ n. form.Integer n) (integer_of (run_text run.Digits (b ∷ rest)))) (run_length run.Digits (b ∷ rest)) (b ∷ rest) (run_some run.Digits b rest e) (run_within run.Digits (b ∷ rest))) (λ e.
    operator b b rest))))))

version_by : (b : ℕ) (rest : List ℕ) (goes : Bool) → belongs run.Version b rest ≡ goes → IsWithin (version_front (b ∷ rest)) (b ∷ rest)
version_by b rest true e = token (version_form (run_text run.Version (b ∷ rest))) (run_length run.Version (b ∷ rest)) (b ∷ rest) (run_some run.Version b rest e) (run_within run.Version (b ∷ rest))
version_by b rest false e = rw (run_empty run.Version b rest e) tt

version : (text : List ℕ) → IsWithin (version_front text) text
version [] = tt
version (b ∷ rest) = version_by b rest (belongs run.Version b rest) refl

pub front_within : (behind_at : Bool) (text : List ℕ) → IsWithin (front_behind behind_at text) text
front_within true text = version text
front_within false text = plain text
