-- The first of equal lists.
use Rattle.std.proofs.Common.{◌≡◌, List, ◌∷◌}

pub head_is : {A : Type 0} (x y : A) (xs ys : List A) → x ∷ xs ≡ y ∷ ys → x ≡ y
head_is x y xs ys h = cc
