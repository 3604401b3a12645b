-- Lists made element by element.
use Rattle.std.proofs.Common.{◌≡◌, ℕ, ◌+◌, ◌<◌, List, [], ◌∷◌, ◌++◌, length, map, take, get_or, sym, ap, subst, ◌∙◌}
use Rattle.std.proofs.lemmas.List.{map-append, take_more}
use Rattle.cm_lemmas.proofs.Lists.{Makes, makes_all, makes_join, makes_none, makes_push}

pub makes_grown : {A B C D : Type 0} (view : A → B) (F : ℕ → List B → List D) (shown : C → D) (xs : List A) (i : ℕ) (start out new : List C) (x : A) (c : C) → new ≡ out ++ c ∷ [] → i < length xs → x ≡ get_or xs i x → ((ys : List B) → F i (view x ∷ ys) ≡ shown c ∷ F (i + 1) ys) → Makes view F shown xs i start out → Makes view F shown xs (i + 1) start new
makes_grown {A} {B} {C} {D} view F shown xs i start out new x c n lt e s f = subst (λ (l : List C). Makes view F shown xs (i + 1) start l) (sym n) (makes_push view F shown xs i start out x c lt e s f)

-- one more of those that make a list
pub map_taken : {A B : Type 0} (g : A → B) (xs : List A) (i : ℕ) (x : A) (old new : List B) (b : B) → i < length xs → x ≡ get_or xs i x → old ≡ map g (take i xs) → b ≡ g x → new ≡ old ++ b ∷ [] → new ≡ map g (take (i + 1) xs)
map_taken {A} {B} g xs i x old new b lt is e q n =
    n ∙ (ap (λ (l : List B). l ++ b ∷ []) e ∙ (ap (λ (y : B). map g (take i xs) ++ y ∷ []) (q ∙ ap g is) ∙ sym (ap (map g) (take_more xs i x lt) ∙ map-append g (take i xs) (get_or xs i x ∷ []))))

pub ruleset list_laws = (makes_none, makes_join, makes_push, makes_all)
