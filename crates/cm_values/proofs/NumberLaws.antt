-- What one more digit does to a number.
use Rattle.std.proofs.Common.{◌≡◌, ℕ, ◌+◌, ◌*◌, ◌<◌, ◌≤◌, List, [], ◌∷◌, length, drop, get_or, refl, arith}
use Rattle.std.proofs.Math.Nat.{mul-le-mul_left}
use Rattle.std.proofs.lemmas.List.{drop_more, drop_all}
use Rattle.cm_values.specs.Words.{digit_of, read_on}

pub read_goes_on : (base n : ℕ) (ds : List ℕ) (i : ℕ) → i < length ds → read_on base n (drop i ds) ≡ read_on base (n * base + digit_of (get_or ds i 0)) (drop (i + 1) ds)
unfolding read_on
read_goes_on base n ds i lt = rw (drop_more ds i 0 lt) refl

pub read_end : (base n : ℕ) (ds : List ℕ) (i : ℕ) → length ds ≤ i → read_on base n (drop i ds) ≡ n
unfolding read_on
read_end base n ds i le = rw (drop_all i ds le) refl

pub read_least : (base n : ℕ) (ds : List ℕ) → 0 < base → n ≤ read_on base n ds
unfolding read_on
read_least base n [] some = omega arith
read_least base n (d ∷ ds) some =
    let more : n * 1 ≤ n * base = mul-le-mul_left n some in
    omega (arith, more, read_least base (n * base + digit_of d) ds some)

pub ruleset number_laws = (read_goes_on, read_end, read_least)
