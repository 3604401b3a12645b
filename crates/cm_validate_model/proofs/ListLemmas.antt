-- Lists, what may be there, and how index spaces grow.
use Rattle.std.proofs.Common.{◌≡◌, ◌∙◌, ℕ, List, [], ◌∷◌, ◌++◌, length, Some, refl, ap, sym}
use Rattle.std.specs.Prelude.{slice_get}
use Rattle.std.specs.List.{AllByRecursion}
use Rattle.std.proofs.lemmas.List.{append_assoc}
use Rattle.cm_validate_model.specs.Items.{Item}
use Rattle.cm_validate_model.specs.Spaces.{Spaces, after_item, after_items, empty_spaces}
use Rattle.cm_validate_model.specs.Sources.{IsItemAt}
use Rattle.cm_lemmas.proofs.Lists.{get_front, nil_right}

-- ---- what may be there

-- ---- all of a list

pub all_weaker : {A : Type 0} (P Q : A → Type 0) → ((x : A) → P x → Q x) → (xs : List A) → AllByRecursion P xs → AllByRecursion Q xs
all_weaker P Q f [] h = tt {0}
all_weaker P Q f (x ∷ xs) h = (f x h.0, all_weaker P Q f xs h.1)

-- ---- places

pub at_end : {A : Type 0} (xs : List A) (x : A) (ys : List A) → slice_get ((xs ++ x ∷ []) ++ ys) (length xs) ≡ Some x
at_end [] x ys = refl
at_end (z ∷ zs) x ys = at_end zs x ys

-- ---- index spaces grow

pub after_both : (s : Spaces) (xs ys : List Item) → after_items s (xs ++ ys) ≡ after_items (after_items s xs) ys
after_both s [] ys = refl
after_both s (x ∷ xs) ys = after_both (after_item s x) xs ys

-- an index space to which each item adds some
Grows : {A : Type 0} → (Spaces → List A) → (Spaces → Item → List A) → Type 0
Grows space new = (s : Spaces) (x : Item) → space (after_item s x) ≡ space s ++ new s x

grown : {A : Type 0} (space : Spaces → List A) (new : Spaces → Item → List A) → Grows space new → (s : Spaces) (xs : List Item)
    → (more : List A) × (space (after_items s xs) ≡ space s ++ more)
unfolding Grows
grown space new g s [] = ([], sym (nil_right (space s)))
grown space new g s (x ∷ xs) =
    let m = grown space new g (after_item s x) xs in
    (new s x ++ m.0, m.1 ∙ ap (λ l. l ++ m.0) (g s x) ∙ append_assoc (space s) (new s x) m.0)

-- after all items it begins with what it has after an item
pub grown_at : {A : Type 0} (space : Spaces → List A) (new : Spaces → Item → List A) → ((s : Spaces) (x : Item) → space (after_item s x) ≡ space s ++ new s x)
    → (items : List Item) (s : Spaces) (x : Item) → IsItemAt items s x → (more : List A) × (space (after_items empty_spaces items) ≡ (space s ++ new s x) ++ more)
unfolding Grows
grown_at space new g items s x at =
    let m = grown space new g (after_item s x) at.rest in
    let whole = ap (after_items empty_spaces) at.split ∙ after_both empty_spaces at.front (x ∷ at.rest) ∙ ap (λ (v : Spaces). after_items (after_item v x) at.rest) at.spaces in
    (m.0, ap space whole ∙ m.1 ∙ ap (λ l. l ++ m.0) (g s x))

pub stays : {A : Type 0} (space : Spaces → List A) (new : Spaces → Item → List A) → ((s : Spaces) (x : Item) → space (after_item s x) ≡ space s ++ new s x)
    → (items : List Item) (s : Spaces) (x : Item) → IsItemAt items s x → (k : ℕ) (y : A) → slice_get (space s) k ≡ Some y → slice_get (space (after_items empty_spaces items)) k ≡ Some y
stays space new g items s x at k y e =
    let m = grown_at space new g items s x at in
    ap (λ l. slice_get l k) m.1 ∙ get_front (space s ++ new s x) m.0 k y (get_front (space s) (new s x) k y e)
