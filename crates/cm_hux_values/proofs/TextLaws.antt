-- Characters of texts, and bytes that are texts.
use Rattle.std.proofs.Common.{◌≡◌, ℕ, Bool, true, false, List, [], ◌∷◌, ◌++◌, Option, Some, None, refl, sym, ap, ◌∙◌}
use Rattle.std.specs.Prelude.{◌&&◌, if◌then◌else◌}
use Rattle.std.specs.List.{list_all}
use Rattle.std.specs.Str.{IsUtf8, is_utf8}
use Rattle.std.proofs.lemmas.Str.{IsUtf8-from_is_utf8, is_utf8-from_IsUtf8}
use Rattle.cm_hux_values.specs.Texts.{is_text, is_whole}

and_last : (a b c : Bool) → (a && (b && c)) ≡ ((a && b) && c)
and_last true b c = refl
and_last false b c = refl

and_true : (a : Bool) → (a && true) ≡ a
and_true true = refl
and_true false = refl

all_last : (p : ℕ → Bool) (xs : List ℕ) (x : ℕ) → list_all p (xs ++ x ∷ []) ≡ (list_all p xs && p x)
all_last p [] x = and_true (p x)
all_last p (y ∷ xs) x = ap (λ (b : Bool). p y && b) (all_last p xs x) ∙ and_last (p y) (list_all p xs) (p x)

-- one more was looked at
pub one_more : (p : ℕ → Bool) (xs : List ℕ) (x : ℕ) (all one both : Bool) → all ≡ list_all p xs → one ≡ p x → both ≡ (all && one) → both ≡ list_all p (xs ++ x ∷ [])
one_more p xs x all one both e f h =
    h ∙ (ap (λ (b : Bool). b && one) e ∙ (ap (λ (b : Bool). list_all p xs && b) f ∙ sym (all_last p xs x)))

-- bytes that are UTF-8
pub some_text : (bs t : List ℕ) (r : Option (List ℕ)) → IsUtf8 bs → t ≡ bs → r ≡ (if is_whole t then Some t else None) → r ≡ (if is_text bs then Some bs else None)
some_text bs t r u e h =
    h ∙ (ap (λ (z : List ℕ). if is_whole z then Some z else None) e
    ∙ ap (λ (b : Bool). if b && is_whole bs then Some bs else None) (sym (is_utf8-from_IsUtf8 bs u)))

if_not : (b whole : Bool) (bs : List ℕ) → (b ≡ true → ⊥) → None ≡ (if b && whole then Some bs else None)
if_not true whole bs n = absurd (n refl)
if_not false whole bs n = refl

pub no_text : (bs : List ℕ) → (IsUtf8 bs → ⊥) → None ≡ (if is_text bs then Some bs else None)
no_text bs n = if_not (is_utf8 bs) (is_whole bs) bs (λ e. n (IsUtf8-from_is_utf8 bs e))
