-- The first values of an array, after they were lent.
use Rattle.std.proofs.Common.{◌≡◌, ℕ, ◌≤◌, List, length, take, arith, rules, length-take-le}
use Rattle.std.proofs.lemmas.List.{same_lists, places}
use Rattle.std.proofs.lemmas.Bool.{cases_lt}
use Rattle.std.specs.List.{refill}

-- the first n elements of a refilled list are the first n elements refilled
pub take-refill : {X : Type 0} (n : ℕ) (xs written : List X) → n ≤ length xs
    → take n (refill (length xs) xs written) ≡ refill (length (take n xs)) (take n xs) written
take-refill n xs written le =
    let cut = length-take-le n xs le in
    same_lists _ _ (search (rules, places))
    (λ k d h. grind (arith, places, cases_lt k (length written)))
