-- Noting for which instances types are made.
use Rattle.std.proofs.Common.{◌≡◌, ◌∙◌, ℕ, ◌+◌, ◌-◌, ◌≤◌, List, [], ◌∷◌, ◌++◌, replicate, ap, arith, append_assoc}
use Rattle.std.proofs.lemmas.List.{replicate_more}

pub more_made : (xs ys zs : List ℕ) (k n y : ℕ) → k ≤ n → ys ≡ xs ++ replicate (n - k) y → zs ≡ ys ++ y ∷ [] → zs ≡ xs ++ replicate ((n + 1) - k) y
more_made xs ys zs k n y le h e =
    let one : (n + 1) - k ≡ (n - k) + 1 = omega (arith, le) in
    rw (one, e, h) (append_assoc xs (replicate (n - k) y) (y ∷ []) ∙ ap (λ (r : List ℕ). xs ++ r) (replicate_more (n - k) y))
