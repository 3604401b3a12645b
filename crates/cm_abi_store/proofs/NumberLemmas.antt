-- Bytes of numbers, as `byteorder` writes them.
use Rattle.std.proofs.Common.{◌≡◌, ℕ, zero, suc, ◌+◌, ◌-◌, ◌/◌, ◌%◌, List, [], ◌∷◌, ◌++◌, take, drop, append-nil, refl, arith}
use Rattle.std.specs.Int.{bytes_low_first}
use Rattle.cm_abi_model.specs.Stores.{bytes_of}

-- the lowest bytes of a number are those of what is left of it in so many bytes
pub low_16 : (x : ℕ) → bytes_low_first 0 2 (x % 65536) ≡ bytes_of 2 x
unfolding bytes_of
low_16 x =
    let first : x % 65536 % 256 ≡ x % 256 = omega arith in
    let second : x % 65536 / 256 % 256 ≡ x / 256 % 256 = omega arith in
    rw (first, second) refl

pub low_32 : (x : ℕ) → bytes_low_first 0 4 (x % 4294967296) ≡ bytes_of 4 x
unfolding bytes_of
low_32 x =
    let first : x % 4294967296 % 256 ≡ x % 256 = omega arith in
    let second : x % 4294967296 / 256 % 256 ≡ x / 256 % 256 = omega arith in
    let third : x % 4294967296 / 65536 % 256 ≡ x / 256 / 256 % 256 = omega arith in
    let fourth : x % 4294967296 / 16777216 % 256 ≡ x / 256 / 256 / 256 % 256 = omega arith in
    rw (first, second, third, fourth) refl

pub low_64 : (x : ℕ) → bytes_low_first 0 8 x ≡ bytes_of 8 x
unfolding bytes_of
low_64 x =
    let b2 : x / 65536 ≡ x / 256 / 256 = omega arith in
    let b3 : x / 16777216 ≡ x / 256 / 256 / 256 = omega arith in
    let b4 : x / 4294967296 ≡ x / 256 / 256 / 256 / 256 = omega arith in
    let b5 : x / 1099511627776 ≡ x / 256 / 256 / 256 / 256 / 256 = omega arith in
    let b6 : x / 281474976710656 ≡ x / 256 / 256 / 256 / 256 / 256 / 256 = omega arith in
    let b7 : x / 72057594037927936 ≡ x / 256 / 256 / 256 / 256 / 256 / 256 / 256 = omega arith in
    rw (b2, b3, b4, b5, b6, b7) refl

none_left : (n : ℕ) (m : List ℕ) → drop n (take n m) ≡ []
none_left zero m = refl
none_left (suc n) [] = refl
none_left (suc n) (x ∷ m) = none_left n m

-- what is written fills so many bytes from an address on
pub nothing_behind : (n at : ℕ) (m ys zs : List ℕ) → ys ≡ zs → ys ++ drop n (take (at + n - at) (drop at m)) ≡ zs
nothing_behind n at m ys zs is =
    let size : at + n - at ≡ n = omega arith in
    rw (size, none_left n (drop at m), is) (append-nil zs)
