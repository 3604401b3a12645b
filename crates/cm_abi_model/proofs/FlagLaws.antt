-- Labels are the bits of the bytes.
use Rattle.std.proofs.Common.{◌≡◌, ℕ, zero, suc, ◌+◌, ◌*◌, ◌/◌, ◌%◌, ◌^◌, ◌<◌, ◌≤◌, List, length, refl, sym, ap, ◌∙◌, arith}
use Rattle.std.proofs.lemmas.Nat.{shr-shr, pow-add}
use Rattle.std.proofs.Math.Nat.{pow-le-pow_right}
use Rattle.cm_types.specs.Types.{flags}
use Rattle.cm_types.specs.Values.{flag_set}
use Rattle.cm_layout.specs.Sizes.{IsLeastBytes, flags_size}
use Rattle.cm_abi_model.specs.Numbers.{number_at}
use Rattle.cm_abi_model.specs.Shows.{Shows}
use Rattle.cm_abi_model.specs.Stores.{Given, Holds, stored}
use Rattle.cm_abi_model.specs.Views.{View}
use Rattle.cm_abi_model.specs.Bytes.{AreBytes, StandsAt, bit_of, byte_of}
use Rattle.cm_abi_model.specs.PartPlaces.{AreLabels, bit_at}
use Rattle.cm_abi_model.proofs.BitLaws.{bit_up, bits_kept, kept_below}
use Rattle.cm_abi_model.proofs.NumberLaws.{held_stands, number_stands}

pub pow_bytes : (q : ℕ) → 256 ^ q ≡ 2 ^ (8 * q)
pow_bytes zero = refl
pow_bytes (suc q) =
    let up : 256 ^ suc q ≡ 256 * 256 ^ q = omega arith in
    let split : 2 ^ (8 + 8 * q) ≡ 256 * 2 ^ (8 * q) = pow-add 2 8 (8 * q) in
    up ∙ ap (λ x. 256 * x) (pow_bytes q) ∙ sym split ∙ ap (λ x. 2 ^ x) {x = 8 + 8 * q} {y = 8 * suc q} (omega arith)

-- bit i of a number is a bit of one of its bytes
pub bit_of_byte : (n i : ℕ) → bit_of n i ≡ bit_of (byte_of n (i / 8)) (i % 8)
bit_of_byte n i =
    ap (λ x. n / 2 ^ x % 2) {x = i} {y = 8 * (i / 8) + i % 8} (omega arith)
    ∙ sym (ap (λ x. x % 2) (shr-shr n (8 * (i / 8)) (i % 8)))
    ∙ ap (λ x. n / x / 2 ^ (i % 8) % 2) (sym (pow_bytes (i / 8)))
    ∙ sym (bits_kept (n / 256 ^ (i / 8)) 8 (i % 8) (omega arith))

bit_stands : (m : List ℕ) (p bytes n i : ℕ) → StandsAt m p bytes n → i < 8 * bytes → bit_of n i ≡ bit_at m p i
bit_stands m p bytes n i s lt = bit_of_byte n i ∙ ap (λ b. bit_of b (i % 8)) (sym (s.each (i / 8) (omega (arith, lt))))

-- numbers with the same bits are the same
pub bits_same : (k a b : ℕ) → a < 2 ^ k → b < 2 ^ k → ((i : ℕ) → i < k → bit_of a i ≡ bit_of b i) → a ≡ b
bits_same zero a b x y same = omega (arith, x, y)
bits_same (suc k) a b x y same =
    let low : a % 2 ≡ b % 2 = omega (arith, same 0 (omega arith)) in
    let high : a / 2 ≡ b / 2 = bits_same k (a / 2) (b / 2) (omega (arith, x)) (omega (arith, y)) (λ i lt. bit_up a i ∙ same (suc i) (omega (arith, lt)) ∙ sym (bit_up b i)) in
    omega (arith, low, high)

abbrev pub Enough : Type 0
Enough = (n : ℕ) → n ≤ 32 → IsLeastBytes (λ b. n ≤ 8 * b) (flags_size n)

pub labels_read : Enough → (w : View) (ls : List (List ℕ)) (p n : ℕ) → AreBytes w.memory → length ls ≤ 32 → Shows w (flags ls) p (flag_set n) → AreLabels w.memory p (length ls) n
labels_read least w ls p n bytes few h =
    let size = flags_size (length ls) in
    let x = number_at size w.memory p in
    let s = number_stands size w.memory p bytes in
    let room : length ls ≤ 8 * size = (least (length ls) few).enough in
    record {
      below = omega (arith, h, kept_below x (length ls));
      each = λ i lt. ap (λ y. bit_of y i) h ∙ bits_kept x (length ls) i lt ∙ bit_stands w.memory p size x i s (omega (arith, lt, room));
    }

pub labels_only : Enough → (w : View) (ls : List (List ℕ)) (p n : ℕ) → AreBytes w.memory → length ls ≤ 32 → AreLabels w.memory p (length ls) n → Shows w (flags ls) p (flag_set n)
labels_only least w ls p n bytes few h =
    let size = flags_size (length ls) in
    let x = number_at size w.memory p in
    let s = number_stands size w.memory p bytes in
    let room : length ls ≤ 8 * size = (least (length ls) few).enough in
    bits_same (length ls) n (x % 2 ^ length ls) h.below (kept_below x (length ls))
    (λ i lt. h.each i lt ∙ sym (bit_stands w.memory p size x i s (omega (arith, lt, room))) ∙ sym (bits_kept x (length ls) i lt))

pub labels_stored : Enough → (m : List ℕ) (g : Given) (ls : List (List ℕ)) (n p k h : ℕ) → length ls ≤ 32 → n < 2 ^ length ls → Holds m (stored g (flags ls) (flag_set n) p k h)
    → (i : ℕ) → i < 8 * flags_size (length ls) → bit_at m p i ≡ bit_of n i
labels_stored least m g ls n p k h few small held i lt =
    let size = flags_size (length ls) in
    let room : length ls ≤ 8 * size = (least (length ls) few).enough in
    let more : 2 ^ length ls ≤ 2 ^ (8 * size) = pow-le-pow_right {n = 2} (omega arith) room in
    sym (bit_stands m p size n i (held_stands size m p n (omega (arith, small, more, pow_bytes size)) held) lt)
