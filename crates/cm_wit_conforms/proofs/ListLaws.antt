-- The names of imports, exports and items.
use Rattle.std.proofs.Common.{◌≡◌, ℕ, List, [], ◌∷◌, map, refl, sym, ap, subst, Ok, Err, IfOk}
use Rattle.std.specs.declared.result.Result.{Result}
use Rattle.cm_wit_conforms.specs.Listings.{AreNames}
use Rattle.cm_wit_conforms.specs.declared.listing.ListedNames.{ListedNames}

pub fused : {A B : Type 0} (f : A → B) (name : B → List ℕ) (xs : List A) → map name (map f xs) ≡ map (λ x. name (f x)) xs
fused f name [] = refl
fused f name (x ∷ xs) = ap (λ (l : List (List ℕ)). name (f x) ∷ l) (fused f name xs)

-- what a listing has is what these names are
pub listed_as : {E X : Type 0} (r : Result ListedNames E) (texts : List (List ℕ)) (names : X → List (List ℕ)) → ((t : X) → names t ≡ texts) → IfOk r (λ l. AreNames l texts) → IfOk r (λ l. (t : X) → AreNames l (names t))
listed_as (Err e) texts names is h = h
listed_as (Ok l) texts names is h = λ t. subst (AreNames l) (sym (is t)) h
