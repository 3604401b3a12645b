-- Bits of numbers.
use Rattle.std.proofs.Common.{◌≡◌, ℕ, zero, suc, ◌+◌, ◌*◌, ◌/◌, ◌%◌, ◌^◌, ◌<◌, sym, ap, ◌∙◌, arith}
use Rattle.std.proofs.Math.Nat.{div-div-eq-div-mul, mod-lt}
use Rattle.std.proofs.lemmas.Nat.{div-add-mod', mod-mul-add, pow_pos}
use Rattle.cm_abi_model.specs.Bytes.{bit_of}

pub bit_up : (n j : ℕ) → bit_of (n / 2) j ≡ bit_of n (suc j)
bit_up n j = ap (λ x. x % 2) (div-div-eq-div-mul n 2 (2 ^ j)) ∙ ap (λ x. n / x % 2) (omega arith)

-- a number by the bits that are kept and those above, which are even
parts_even : (n k : ℕ) → 2 * (n / 2 ^ suc k * 2 ^ k) + n % 2 ^ suc k ≡ n
parts_even n k =
    let all = div-add-mod' n (2 ^ suc k) in
    let twice : n / 2 ^ suc k * 2 ^ suc k ≡ n / 2 ^ suc k * (2 * 2 ^ k) = ap (λ x. n / 2 ^ suc k * x) (omega arith) in
    let same : n / 2 ^ suc k * (2 * 2 ^ k) ≡ 2 * (n / 2 ^ suc k * 2 ^ k) = omega arith in
    omega (arith, all, twice, same)

half_kept : (n k : ℕ) → n % 2 ^ suc k / 2 ≡ n / 2 % 2 ^ k
half_kept n k =
    let lt : n % 2 ^ suc k < 2 ^ suc k = mod-lt n (pow_pos (suc k)) in
    let half : n / 2 ≡ n / 2 ^ suc k * 2 ^ k + n % 2 ^ suc k / 2 = omega (arith, parts_even n k) in
    sym (ap (λ x. x % 2 ^ k) half ∙ mod-mul-add (n / 2 ^ suc k) (2 ^ k) (n % 2 ^ suc k / 2) (omega (arith, lt)))

low_kept : (n k : ℕ) → n % 2 ^ suc k % 2 ≡ n % 2
low_kept n k = omega (arith, parts_even n k)

-- the bits that are kept stay
pub bits_kept : (n k i : ℕ) → i < k → bit_of (n % 2 ^ k) i ≡ bit_of n i
bits_kept n zero i lt = absurd (omega (arith, lt))
bits_kept n (suc k) zero lt = omega (arith, low_kept n k)
bits_kept n (suc k) (suc j) lt =
    sym (bit_up (n % 2 ^ suc k) j) ∙ ap (λ x. bit_of x j) (half_kept n k) ∙ bits_kept (n / 2) k j (omega (arith, lt)) ∙ bit_up n j

pub kept_below : (n k : ℕ) → n % 2 ^ k < 2 ^ k
kept_below n k = mod-lt n (pow_pos k)
