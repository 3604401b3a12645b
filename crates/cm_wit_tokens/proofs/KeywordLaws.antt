-- A word is found among the keywords that begin as it does, and have as many letters.
use Rattle.std.proofs.Common.{◌≡◌, ◌∙◌, ap, ℕ, List, [], ◌∷◌, Bool, true, false, Some, refl, find, filter, get_or, length, cond, arith}
use Rattle.std.specs.Str.{bytes_eq}
use Rattle.std.proofs.lemmas.Bool.Decides.{nat_tests}
use Rattle.std.proofs.lemmas.Slice.Eq.{bytes_eq-Decides}
use Rattle.cm_wit_tokens.specs.declared.keyword.Keyword.{Keyword}
use Rattle.cm_wit_tokens.specs.Keywords.{spelling, keywords, begins, keywords_that_begin}

-- a test finds the same where what it leaves out is left out before
pub find_filter : {A : Type 0} (p q : A → Bool) → ((x : A) → p x ≡ true → q x ≡ true) → (xs : List A) → find p (filter q xs) ≡ find p xs
find_filter p q h [] = refl
find_filter p q h (x ∷ xs) = by (p x) (q x) refl refl (find_filter p q h xs)
  where
    by : (b c : Bool) → p x ≡ b → q x ≡ c → find p (filter q xs) ≡ find p xs → find p (cond c (x ∷ filter q xs) (filter q xs)) ≡ cond b (Some x) (find p xs)
    by true true e f ih = ap (λ t. cond t (Some x) (find p (filter q xs))) e
    by true false e f ih = grind (arith, h x e, f)
    by false true e f ih = ap (λ t. cond t (Some x) (find p (filter q xs))) e ∙ ih
    by false false e f ih = ih

-- a keyword that is spelled as a text begins as it does
same_beginning : (text : List ℕ) (k : Keyword) → bytes_eq (spelling k) text ≡ true → begins (length text) (get_or text 0 0) k ≡ true
same_beginning text k e =
    let same = (bytes_eq-Decides (spelling k) text).0 e in
    let as_long : length (spelling k) ≡ length text = ap length same in
    let first : get_or (spelling k) 0 0 ≡ get_or text 0 0 = ap (λ (t : List ℕ). get_or t 0 0) same in
    grind (arith, nat_tests, as_long, first)

pub among_begun : (text : List ℕ) → find (λ k. bytes_eq (spelling k) text) (keywords_that_begin (length text) (get_or text 0 0)) ≡ find (λ k. bytes_eq (spelling k) text) keywords
among_begun text = find_filter (λ k. bytes_eq (spelling k) text) (begins (length text) (get_or text 0 0)) (same_beginning text) keywords
