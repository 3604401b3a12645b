-- Names in a set, each by its text without ASCII case.
use Rattle.std.proofs.Common.{◌≡◌, ℕ, Bool, true, false, ◌||◌, List, [], ◌∷◌, ◌++◌, refl, sym, ap, ◌∙◌}
use Rattle.std.specs.List.{list_any}
use Rattle.std.specs.Str.{bytes_eq}
use Rattle.cm_types.specs.Names.{is_same_name}
use Rattle.cm_validate_core.specs.Names.{without_case}
use Rattle.cm_lemmas.proofs.Bools.{or_false_turned}

or_later : (b c d : Bool) → ((b || c) || d) ≡ (b || (c || d))
or_later true c d = refl
or_later false c d = refl

any_more : (p : List ℕ → Bool) (xs : List (List ℕ)) (x : List ℕ) → list_any p (xs ++ x ∷ []) ≡ (list_any p xs || (p x || false))
any_more p [] x = refl
any_more p (y ∷ ys) x = ap (λ b. p y || b) (any_more p ys x) ∙ sym (or_later (p y) (list_any p ys) (p x || false))

pub one_more : (text name : List ℕ) (old new : List (List ℕ)) → text ≡ without_case name → new ≡ old ++ text ∷ []
    → (n : List ℕ) → list_any (bytes_eq (without_case n)) new ≡ (list_any (bytes_eq (without_case n)) old || list_any (is_same_name n) (name ∷ []))
one_more text name old new same is n =
    ap (list_any (bytes_eq (without_case n))) is
    ∙ any_more (bytes_eq (without_case n)) old text
    ∙ ap (λ t. list_any (bytes_eq (without_case n)) old || (bytes_eq (without_case n) t || false)) same

pub none_more : (old new : List (List ℕ)) → new ≡ old
    → (n : List ℕ) → list_any (bytes_eq (without_case n)) new ≡ (list_any (bytes_eq (without_case n)) old || list_any (is_same_name n) [])
none_more old new is n = ap (list_any (bytes_eq (without_case n))) is ∙ or_false_turned (list_any (bytes_eq (without_case n)) old)
