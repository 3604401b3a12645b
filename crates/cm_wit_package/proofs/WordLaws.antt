-- The tokens of words, names, versions and numbers.
use Rattle.std.proofs.Common.{◌≡◌, ℕ, suc, ◌+◌, ◌<◌, Bool, true, false, ◌==◌, ◌&&◌, ◌||◌, cond, if◌then◌else◌, List, [], ◌∷◌, ◌++◌, length, take, drop, Option, Some, None, refl, sym, ap, subst, ◌∙◌, arith, inl, inr, ◌⊎◌}
use Rattle.std.specs.Prelude.{codes}
use Rattle.std.specs.List.{list_all, slice_split, onto_first}
use Rattle.std.proofs.lemmas.List.{length-append}
use Rattle.std.proofs.Math.Seq.{take-append_seam, drop-append_seam}
use Rattle.std.proofs.lemmas.Bool.Decides.{nat_tests}
use Rattle.std.specs.Option.{option_map_or}
use Rattle.std.specs.Char.{is_ascii_alphabetic, is_ascii_lowercase, is_ascii_uppercase}
use Rattle.cm_types.specs.Names.{is_fragment, is_label}
use Rattle.cm_wit_tokens.specs.declared.keyword.Keyword.{Keyword}
use Rattle.cm_wit_tokens.specs.declared.run.Run.{Run}
use Rattle.cm_wit_tokens.specs.declared.run.Run.TheVariants as run
use Rattle.cm_wit_tokens.specs.declared.token.Form.{Form}
use Rattle.cm_wit_tokens.specs.declared.token.Form.TheVariants as form
use Rattle.cm_wit_tokens.specs.declared.operator.Operator.TheVariants as operator
use Rattle.cm_wit_tokens.specs.declared.front.Front.TheVariants as front_is
use Rattle.cm_wit_tokens.specs.Keywords.{keyword_of}
use Rattle.cm_wit_tokens.specs.Runs.{begins_alphanumeric, belongs, goes_on, run_length, run_text}
use Rattle.cm_wit_tokens.specs.Tokens.{identifier_form, word_form, version_form, token_front, version_front, word_front, is_blank, front, is_at}
use Rattle.cm_wit_package.proofs.Lexing.{IsLexed, Lexes, token_first}
use Rattle.cm_wit_package.proofs.Goods.{IsWhole, IsGood}

-- ---- runs of whole texts

dot_more : (dot other : Bool) (text rest : List ℕ) → (if dot then begins_alphanumeric text else other) ≡ true → (if dot then begins_alphanumeric (text ++ rest) else other) ≡ true
dot_more true other [] rest h = absurd cc
dot_more true other (b ∷ text) rest h = h
dot_more false other text rest h = h

belongs_more : (k : Run) (b : ℕ) (text rest : List ℕ) → belongs k b text ≡ true → belongs k b (text ++ rest) ≡ true
belongs_more run.Word b text rest h = h
belongs_more run.Digits b text rest h = h
belongs_more run.Line b text rest h = h
belongs_more run.Version b text rest h = dot_more (b == 0x2E) _ text rest h

stops_at : (k : Run) (rest : List ℕ) → goes_on k rest ≡ false → run_length k rest ≡ 0
unfolding run_length
stops_at k [] h = refl
stops_at k (b ∷ rest) h = rw h refl

pub whole_by : (k : Run) (b : ℕ) (text : List ℕ) (goes : Bool) → belongs k b text ≡ goes → IsWhole k (b ∷ text) → (belongs k b text ≡ true) × IsWhole k text
unfolding run_length
whole_by k b text true e h = let g : suc (run_length k text) ≡ suc (length text) = sym (rw e refl) ∙ h in (e, omega (arith, g))
whole_by k b text false e h = let g : 0 ≡ suc (length text) = sym (rw e refl) ∙ h in absurd (omega (arith, g))

pub run_of_whole : (k : Run) (text rest : List ℕ) → IsWhole k text → goes_on k rest ≡ false → run_length k (text ++ rest) ≡ length text
unfolding run_length
run_of_whole k [] rest w s = stops_at k rest s
run_of_whole k (b ∷ text) rest w s =
    let p = whole_by k b text (belongs k b text) refl w in
    rw (belongs_more k b text rest p.0) (ap suc (run_of_whole k text rest p.1 s))

run_text_of_whole : (k : Run) (text rest : List ℕ) → IsWhole k text → goes_on k rest ≡ false → run_text k (text ++ rest) ≡ text
run_text_of_whole k text rest w s = ap (λ n. take n (text ++ rest)) (run_of_whole k text rest w s) ∙ take-append_seam text rest

-- ---- words

abbrev pub begins_letter : List ℕ → Bool
begins_letter [] = false
begins_letter (b ∷ rest) = is_ascii_alphabetic b

letter_front : (b : ℕ) (rest : List ℕ) → is_ascii_alphabetic b ≡ true → front (b ∷ rest) ≡ word_front (b ∷ rest)
letter_front b rest h =
    let blank : is_blank b ≡ false = grind (arith, nat_tests) in
    let slash : (b == 0x2F) ≡ false = grind (arith, nat_tests) in
    let hyphen : (b == 0x2D) ≡ false = grind (arith, nat_tests) in
    let percent : (b == 0x25) ≡ false = grind (arith, nat_tests) in
    rw (blank, slash, hyphen, percent, h) refl

word_front_is : (word rest : List ℕ) (f : Form) → IsWhole run.Word word → goes_on run.Word rest ≡ false → word_form word ≡ Some f → word_front (word ++ rest) ≡ front_is.Token f (length word)
word_front_is word rest f w s e =
    ap (λ n. token_front (word_form (take n (word ++ rest))) n) (run_of_whole run.Word word rest w s)
    ∙ (ap (λ text. token_front (word_form text) (length word)) (take-append_seam word rest)
    ∙ ap (λ o. token_front o (length word)) e)

pub shorter : (b : ℕ) (text rest : List ℕ) → length rest < length ((b ∷ text) ++ rest)
shorter b text rest = omega (arith, length-append text rest)

pub word_lexes : (word : List ℕ) (f : Form) → begins_letter word ≡ true → IsWhole run.Word word → word_form word ≡ Some f → is_at f ≡ false → Lexes word (f ∷ []) true
word_lexes [] f b w e a = absurd cc
word_lexes (b ∷ bs) f letter w e a = record {
  at = λ rest gs stops l.
      token_first false ((b ∷ bs) ++ rest) rest f (length (b ∷ bs)) gs
      (letter_front b (bs ++ rest) letter ∙ word_front_is (b ∷ bs) rest f w stops.0 e)
      (drop-append_seam (b ∷ bs) rest) (shorter b bs rest)
      (subst (λ (at : Bool). IsLexed at rest gs) (sym a) l);
}

-- ---- names

either_letter : (low up x y more : Bool) → (((low && x) || (up && y)) && more) ≡ true → (low ≡ true) ⊎ (up ≡ true)
either_letter true up x y more h = inl refl
either_letter false true x y more h = inr refl
either_letter false false x y more h = absurd cc

letter : (b : ℕ) → (is_ascii_lowercase b ≡ true) ⊎ (is_ascii_uppercase b ≡ true) → is_ascii_alphabetic b ≡ true
letter b h = elim h [ inl l ↦ grind (arith, nat_tests) | inr u ↦ grind (arith, nat_tests) ]

onto_letter : (b : ℕ) (parts : List (List ℕ)) → list_all is_fragment (onto_first b parts) ≡ true → is_ascii_alphabetic b ≡ true
onto_letter b [] h = letter b (either_letter (is_ascii_lowercase b) (is_ascii_uppercase b) _ _ _ h)
onto_letter b (part ∷ parts) h = letter b (either_letter (is_ascii_lowercase b) (is_ascii_uppercase b) _ _ _ h)

split_letter : (b : ℕ) (hyphen : Bool) (parts : List (List ℕ)) → list_all is_fragment (cond hyphen ([] ∷ parts) (onto_first b parts)) ≡ true → is_ascii_alphabetic b ≡ true
split_letter b true parts h = absurd cc
split_letter b false parts h = onto_letter b parts h

pub label_begins : (word : List ℕ) → is_label word ≡ true → begins_letter word ≡ true
label_begins [] h = absurd cc
label_begins (b ∷ bs) h = split_letter b (b == 45) (slice_split (λ c. c == 45) bs) h

name_form : (word : List ℕ) → is_label word ≡ true → identifier_form word ≡ Some (form.Identifier word)
name_form word h = rw h refl

escaped_is : (word rest : List ℕ) → IsGood (form.Identifier word) → goes_on run.Word rest ≡ false → front (0x25 ∷ (word ++ rest)) ≡ front_is.Token (form.Identifier word) (1 + length word)
escaped_is word rest g s =
    ap (λ n. token_front (identifier_form (take n (word ++ rest))) (1 + n)) (run_of_whole run.Word word rest g.1 s)
    ∙ (ap (λ text. token_front (identifier_form text) (1 + length word)) (take-append_seam word rest)
    ∙ ap (λ o. token_front o (1 + length word)) (name_form word g.0))

escaped_rest : (word rest : List ℕ) → drop (1 + length word) (0x25 ∷ (word ++ rest)) ≡ rest
escaped_rest word rest = let e : 1 + length word ≡ suc (length word) = omega arith in rw e (drop-append_seam word rest)

escaped_lexes : (word : List ℕ) → IsGood (form.Identifier word) → Lexes (codes "%" ++ word) (form.Identifier word ∷ []) true
escaped_lexes word g = record {
  at = λ rest gs stops l.
      token_first false (0x25 ∷ (word ++ rest)) rest (form.Identifier word) (1 + length word) gs
      (escaped_is word rest g stops.0) (escaped_rest word rest) (shorter 0x25 word rest) l;
}

name_by : (word : List ℕ) (o : Option Keyword) → keyword_of word ≡ o → IsGood (form.Identifier word) → Lexes (option_map_or (λ k. codes "%" ++ word) o word) (form.Identifier word ∷ []) true
name_by word (Some k) e g = escaped_lexes word g
name_by word None e g = word_lexes word (form.Identifier word) (label_begins word g.0) g.1 (rw e (name_form word g.0)) refl

pub name_lexes : (word : List ℕ) → IsGood (form.Identifier word) → Lexes (option_map_or (λ k. codes "%" ++ word) (keyword_of word) word) (form.Identifier word ∷ []) true
name_lexes word g = name_by word (keyword_of word) refl g

-- ---- versions

at_front : (rest : List ℕ) → front (0x40 ∷ rest) ≡ front_is.Token (form.Operator operator.At) 1
at_front rest = refl

version_is : (text rest : List ℕ) → IsGood (form.Version text) → goes_on run.Version rest ≡ false → version_front (text ++ rest) ≡ front_is.Token (form.Version text) (length text)
version_is [] rest g s = let e = g.0 in absurd cc
version_is (b ∷ bs) rest g s =
    ap (λ n. token_front (version_form (take n ((b ∷ bs) ++ rest))) n) (run_of_whole run.Version (b ∷ bs) rest g.1 s)
    ∙ (ap (λ text. token_front (version_form text) (length (b ∷ bs))) (take-append_seam (b ∷ bs) rest)
    ∙ ap (λ o. token_front o (length (b ∷ bs))) g.0)

some_version : (text rest : List ℕ) → IsGood (form.Version text) → length rest < length (text ++ rest)
some_version [] rest g = let e = g.0 in absurd cc
some_version (b ∷ bs) rest g = shorter b bs rest

pub version_lexes : (text : List ℕ) → IsGood (form.Version text) → Lexes (codes "@" ++ text) (form.Operator operator.At ∷ form.Version text ∷ []) true
version_lexes text g = record {
  at = λ rest gs stops l.
      token_first false (0x40 ∷ (text ++ rest)) (text ++ rest) (form.Operator operator.At) 1 (form.Version text ∷ gs) refl refl (omega arith)
      (token_first true (text ++ rest) rest (form.Version text) (length text) gs (version_is text rest g stops.2) (drop-append_seam text rest) (some_version text rest g) l);
}
