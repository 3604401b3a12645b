-- Sizes in another encoding, as sums over the bytes or the units of a text.
use Rattle.std.proofs.Common.{◌≡◌, ℕ, ◌+◌, ◌*◌, ◌%◌, ◌<◌, ◌≤◌, ◌^◌, Bool, cond, List, [], ◌∷◌, ◌++◌, length, take, get_or, map, refl, sym, ap, subst, ◌∙◌, arith, zero-add, length-append, nat_le, sum_by, count_by, replicate, ⊎_elim, zero, suc, Fits, w8}
use Rattle.std.proofs.lemmas.Bool.Decides.{nat_tests}
use Rattle.std.proofs.lemmas.List.Sums.{sum_by-append, sum_by-take-le, count_by-le-length}
use Rattle.std.proofs.lemmas.Simd.{ones-mask_l}
use Rattle.std.specs.Char.{IsScalar}
use Rattle.std.specs.Int.RustNames.{count_ones}
use Rattle.std.specs.List.{AllByRecursion, flat_map}
use lib.Dec.{leb}
use Rattle.std.proofs.Math.Seq.{take-add}
use Rattle.std.proofs.lemmas.List.{take_more}
use Rattle.cm_text.specs.Text.{IsText, IsSomeText}
use lib.Lanes.{mask_l, top, zip2, chunk, Each1}
use lib.Utf8.{scalar_cases}
use Rattle.cm_text.specs.Sizes.{units_begun, bytes_taken, latin1_taken}
use Rattle.std.specs.Char.Escape.{encode_utf16}
use Rattle.cm_text.specs.Latin1.{HasLatin1, spell_latin1}
use Rattle.cm_text.specs.Utf16.{unit, units, spell_utf16}
use Rattle.cm_text.specs.Lanes.{mark}
use Rattle.cm_text.specs.Utf16Laws.{units_of_units}
use Rattle.cm_text.specs.Utf8.{spell_utf8}
use Rattle.cm_text.proofs.LaneLemmas.{mask_from}

-- the lanes from k on are as many as the bits of their mask
pub ones_from : (k : ℕ) (xs : List ℕ) → length xs ≡ 16
    → count_ones (mask_l (map (top 7) (zip2 (λ a b. cond (leb a b) 255 0) (replicate 16 k) xs)) % 2 ^ 64) ≡ count_by (λ x. nat_le k x) xs
ones_from k xs long = ap count_ones (mask_from 16 k xs long (omega arith)) ∙ ones-mask_l (λ x. leb k x) xs

pub count_le : (p : ℕ → Bool) (xs : List ℕ) (n : ℕ) → length xs ≡ n → count_by p xs ≤ n
count_le p xs n long = omega (arith, count_by-le-length p xs)

pub sum_by-cons : (f : ℕ → ℕ) (x : ℕ) (xs : List ℕ) → sum_by f (x ∷ xs) ≡ f x + sum_by f xs
sum_by-cons f x xs = sum_by-append f (x ∷ []) xs ∙ ap (λ n. n + sum_by f xs) (zero-add (f x))

-- of one byte: the units that it begins, by three tests
begun_by_tests : (x : ℕ) → units_begun x + cond (nat_le 128 x) 1 0 ≡ 1 + cond (nat_le 192 x) 1 0 + cond (nat_le 240 x) 1 0
begun_by_tests x = grind (arith, nat_tests)

pub begun_by_counts : (xs : List ℕ) → sum_by units_begun xs + count_by (λ x. nat_le 128 x) xs ≡ length xs + count_by (λ x. nat_le 192 x) xs + count_by (λ x. nat_le 240 x) xs
begun_by_counts [] = refl
begun_by_counts (x ∷ xs) =
    omega (
      arith,
      begun_by_tests x,
      begun_by_counts xs,
      sum_by-cons units_begun x xs,
      sum_by-cons (λ y. cond (nat_le 128 y) 1 0) x xs,
      sum_by-cons (λ y. cond (nat_le 192 y) 1 0) x xs,
      sum_by-cons (λ y. cond (nat_le 240 y) 1 0) x xs,
    )

pub below_of_scalar : (c : ℕ) → IsScalar c → c < 0x110000
below_of_scalar c is = ⊎_elim (λ low. omega arith) (λ high. high.1) (scalar_cases c is)

-- the units that the bytes of one scalar begin are its own
begun_by_scalar : (c : ℕ) → IsScalar c → 2 * sum_by units_begun (spell_utf8 c) ≡ length (spell_utf16 c)
begun_by_scalar c is = let below = below_of_scalar c is in grind (arith, nat_tests)

begun_le_scalar : (c : ℕ) → IsScalar c → sum_by units_begun (spell_utf8 c) ≤ length (spell_utf8 c)
begun_le_scalar c is = let below = below_of_scalar c is in grind (arith, nat_tests)

pub begun_by_text : (cs : List ℕ) → AllByRecursion IsScalar cs → 2 * sum_by units_begun (flat_map spell_utf8 cs) ≡ length (flat_map spell_utf16 cs)
begun_by_text [] all = refl
begun_by_text (c ∷ cs) all =
    omega (
      arith,
      begun_by_scalar c all.0,
      begun_by_text cs all.1,
      sum_by-append units_begun (spell_utf8 c) (flat_map spell_utf8 cs),
      length-append (spell_utf16 c) (flat_map spell_utf16 cs),
    )

pub begun_le_text : (cs : List ℕ) → AllByRecursion IsScalar cs → sum_by units_begun (flat_map spell_utf8 cs) ≤ length (flat_map spell_utf8 cs)
begun_le_text [] all = omega arith
begun_le_text (c ∷ cs) all =
    omega (
      arith,
      begun_le_scalar c all.0,
      begun_le_text cs all.1,
      sum_by-append units_begun (spell_utf8 c) (flat_map spell_utf8 cs),
      length-append (spell_utf8 c) (flat_map spell_utf8 cs),
    )

-- the same of the bytes of a text
pub begun_le : (bytes : List ℕ) → IsSomeText IsScalar spell_utf8 bytes → sum_by units_begun bytes ≤ length bytes
begun_le bytes text = subst (λ xs. sum_by units_begun xs ≤ length xs) text.1.is (begun_le_text text.0 text.1.all)

pub begun_is : (cs bytes : List ℕ) → IsText IsScalar spell_utf8 cs bytes → 2 * sum_by units_begun bytes ≡ length (flat_map spell_utf16 cs)
begun_is cs bytes text = ap (λ xs. 2 * sum_by units_begun xs) (sym text.is) ∙ begun_by_text cs text.all

-- a sum, a block further
pub sum_by-block : (f : ℕ → ℕ) (at n : ℕ) (xs : List ℕ) → sum_by f (take at xs) + sum_by f (chunk at n xs) ≡ sum_by f (take (at + n) xs)
sum_by-block f at n xs = sym (ap (sum_by f) (take-add at n xs) ∙ sum_by-append f (take at xs) (chunk at n xs))

pub sum_by-block_le : (f : ℕ → ℕ) (at n : ℕ) (xs : List ℕ) → sum_by f (take at xs) + sum_by f (chunk at n xs) ≤ sum_by f xs
sum_by-block_le f at n xs = omega (arith, sum_by-block f at n xs, sum_by-take-le f xs (at + n))

pub sum_by-one_le : (f : ℕ → ℕ) (at : ℕ) (xs : List ℕ) → at < length xs → sum_by f (take at xs) + f (get_or xs at 0) ≤ sum_by f xs
sum_by-one_le f at xs within =
    omega
    (arith, sum_by-take-le f xs (at + 1), ap (sum_by f) (take_more xs at 0 within), sum_by-append f (take at xs) (get_or xs at 0 ∷ []), sum_by-cons f (get_or xs at 0) [])

-- of one unit: the bytes that it takes, by four tests
taken_by_tests : (low high : ℕ) → low < 256
    → bytes_taken (unit low high) + cond (nat_le 216 high) 1 0 ≡ 1 + cond (nat_le 128 (mark low high)) 1 0 + cond (nat_le 8 high) 1 0 + cond (nat_le 224 high) 1 0
taken_by_tests low zero below = grind (arith, nat_tests)
taken_by_tests low (suc high) below = grind (arith, nat_tests)

pub taken_by_counts : (lows highs : List ℕ) → length lows ≡ length highs → Each1 (Fits w8) lows
    → sum_by bytes_taken (zip2 unit lows highs) + count_by (λ x. nat_le 216 x) highs
    ≡ length lows + count_by (λ x. nat_le 128 x) (zip2 mark lows highs) + count_by (λ x. nat_le 8 x) highs + count_by (λ x. nat_le 224 x) highs
taken_by_counts [] [] same fits = refl
taken_by_counts [] (high ∷ highs) same fits = absurd (omega arith)
taken_by_counts (low ∷ lows) [] same fits = absurd (omega arith)
taken_by_counts (low ∷ lows) (high ∷ highs) same fits =
    omega (
      arith,
      taken_by_tests low high fits.0.fits,
      taken_by_counts lows highs (omega arith) fits.1,
      sum_by-cons bytes_taken (unit low high) (zip2 unit lows highs),
      sum_by-cons (λ y. cond (nat_le 216 y) 1 0) high highs,
      sum_by-cons (λ y. cond (nat_le 128 y) 1 0) (mark low high) (zip2 mark lows highs),
      sum_by-cons (λ y. cond (nat_le 8 y) 1 0) high highs,
      sum_by-cons (λ y. cond (nat_le 224 y) 1 0) high highs,
    )

pub bytes_taken_le : (u : ℕ) → bytes_taken u ≤ 3
bytes_taken_le u = grind (arith, nat_tests)

pub taken_le : (us : List ℕ) → sum_by bytes_taken us ≤ 3 * length us
taken_le [] = omega arith
taken_le (u ∷ us) = omega (arith, bytes_taken_le u, taken_le us, sum_by-cons bytes_taken u us)

-- the units of a text are those of its scalars
pub units_of_text : (cs : List ℕ) → units (flat_map spell_utf16 cs) ≡ flat_map encode_utf16 cs
units_of_text [] = refl
units_of_text (c ∷ cs) = units_of_units (encode_utf16 c) (flat_map spell_utf16 cs) ∙ ap (λ us. encode_utf16 c ++ us) (units_of_text cs)

taken_by_scalar : (c : ℕ) → IsScalar c → sum_by bytes_taken (encode_utf16 c) ≡ length (spell_utf8 c)
taken_by_scalar c is = let apart = scalar_cases c is in grind (arith, nat_tests)

taken_by_text : (cs : List ℕ) → AllByRecursion IsScalar cs → sum_by bytes_taken (flat_map encode_utf16 cs) ≡ length (flat_map spell_utf8 cs)
taken_by_text [] all = refl
taken_by_text (c ∷ cs) all =
    omega (
      arith,
      taken_by_scalar c all.0,
      taken_by_text cs all.1,
      sum_by-append bytes_taken (encode_utf16 c) (flat_map encode_utf16 cs),
      length-append (spell_utf8 c) (flat_map spell_utf8 cs),
    )

pub taken_is : (cs bytes : List ℕ) → IsText IsScalar spell_utf16 cs bytes → sum_by bytes_taken (units bytes) ≡ length (flat_map spell_utf8 cs)
taken_is cs bytes text = ap (λ xs. sum_by bytes_taken (units xs)) (sym text.is) ∙ ap (sum_by bytes_taken) (units_of_text cs) ∙ taken_by_text cs text.all

-- Latin-1
latin1_by_tests : (x : ℕ) → latin1_taken x ≡ 1 + cond (nat_le 128 x) 1 0
latin1_by_tests x = grind (arith, nat_tests)

pub latin1_by_counts : (xs : List ℕ) → sum_by latin1_taken xs ≡ length xs + count_by (λ x. nat_le 128 x) xs
latin1_by_counts [] = refl
latin1_by_counts (x ∷ xs) =
    omega (arith, latin1_by_tests x, latin1_by_counts xs, sum_by-cons latin1_taken x xs, sum_by-cons (λ y. cond (nat_le 128 y) 1 0) x xs)

pub latin1_le : (xs : List ℕ) → sum_by latin1_taken xs ≤ 2 * length xs
latin1_le xs = omega (arith, latin1_by_counts xs, count_by-le-length (λ x. nat_le 128 x) xs)

latin1_scalar : (c : ℕ) → c < 256 → latin1_taken c ≡ length (spell_utf8 c)
latin1_scalar c below = grind (arith, nat_tests)

latin1_text : (cs : List ℕ) → AllByRecursion HasLatin1 cs → sum_by latin1_taken (flat_map spell_latin1 cs) ≡ length (flat_map spell_utf8 cs)
latin1_text [] all = refl
latin1_text (c ∷ cs) all =
    omega
    (arith, latin1_scalar c all.0, latin1_text cs all.1, sum_by-cons latin1_taken c (flat_map spell_latin1 cs), length-append (spell_utf8 c) (flat_map spell_utf8 cs))

pub latin1_is : (cs bytes : List ℕ) → IsText HasLatin1 spell_latin1 cs bytes → sum_by latin1_taken bytes ≡ length (flat_map spell_utf8 cs)
latin1_is cs bytes text = ap (sum_by latin1_taken) (sym text.is) ∙ latin1_text cs text.all
