-- A list that is mapped in place.
use Rattle.std.proofs.Common.{◌≡◌, ℕ, zero, suc, ◌+◌, ◌<◌, List, [], ◌∷◌, ◌++◌, length, map, take, drop, get_or, refl, sym, ap, subst, ◌∙◌, arith}
use Rattle.std.specs.Prelude.{slice_set}

-- one more place is mapped
pub map_more : {X : Type 0} (f : X → X) (xs : List X) (i : ℕ) (d : X) → i < length xs → slice_set (map f (take i xs) ++ drop i xs) i (f (get_or xs i d)) ≡ map f (take (suc i) xs) ++ drop (suc i) xs
map_more f [] i d lt = absurd (omega (arith, lt))
map_more f (x ∷ xs) zero d lt = refl
map_more f (x ∷ xs) (suc i) d lt = ap (λ ys. f x ∷ ys) (map_more f xs i d (omega (arith, lt)))

-- what stands at a place that is not mapped yet
pub map_at : {X : Type 0} (f : X → X) (xs : List X) (i : ℕ) (d : X) → i < length xs → get_or (map f (take i xs) ++ drop i xs) i d ≡ get_or xs i d
map_at f [] i d lt = absurd (omega (arith, lt))
map_at f (x ∷ xs) zero d lt = refl
map_at f (x ∷ xs) (suc i) d lt = map_at f xs i d (omega (arith, lt))
