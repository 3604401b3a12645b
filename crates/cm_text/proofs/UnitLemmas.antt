-- The units of UTF-16 at an offset in bytes.
use Rattle.std.proofs.Common.{◌≡◌, ℕ, ◌+◌, ◌*◌, ◌/◌, ◌<◌, ◌≤◌, List, [], ◌∷◌, ◌++◌, length, take, drop, get_or, refl, sym, ap, ◌∙◌, arith, zero, suc, length-drop}
use Rattle.std.proofs.Math.Seq.{take-add}
use Rattle.std.proofs.lemmas.List.{length-take-le, take-append-drop, append-nil}
use Rattle.std.proofs.lemmas.List.Concat.{flat_map-append}
use Rattle.std.proofs.lemmas.Simd.{chunk-drop, length-chunk, pick_l_whole, get_or-chunk}
use Rattle.std.specs.List.{flat_map, AllByRecursion}
use lib.Lanes.{chunk}
use Rattle.cm_text.specs.Ascii.{wide}
use Rattle.cm_text.specs.Utf16.{unit, units, first_bytes}

units-append : (k : ℕ) (xs ys : List ℕ) → length xs ≡ 2 * k → units (xs ++ ys) ≡ units xs ++ units ys
units-append k [] ys even = refl
units-append k (x ∷ []) ys even = absurd (omega arith)
units-append zero (x ∷ y ∷ xs) ys even = absurd (omega arith)
units-append (suc k) (x ∷ y ∷ xs) ys even = ap (λ us. unit x y ∷ us) (units-append k xs ys (omega arith))

first_bytes-append : (k : ℕ) (xs ys : List ℕ) → length xs ≡ 2 * k → first_bytes (xs ++ ys) ≡ first_bytes xs ++ first_bytes ys
first_bytes-append k [] ys even = refl
first_bytes-append k (x ∷ []) ys even = absurd (omega arith)
first_bytes-append zero (x ∷ y ∷ xs) ys even = absurd (omega arith)
first_bytes-append (suc k) (x ∷ y ∷ xs) ys even = ap (λ us. x ∷ us) (first_bytes-append k xs ys (omega arith))

pub length-units_half : (xs : List ℕ) → length (units xs) ≡ length xs / 2
length-units_half [] = refl
length-units_half (x ∷ []) = omega arith
length-units_half (x ∷ y ∷ xs) = omega (arith, length-units_half xs)

-- n units from an even offset on, and those after them
pub units-block : (at n : ℕ) (xs : List ℕ) → at + 2 * n ≤ length xs → units (drop at xs) ≡ units (chunk at (2 * n) xs) ++ units (drop (at + 2 * n) xs)
units-block at n xs within =
    ap units (chunk-drop at (2 * n) xs) ∙ units-append n (chunk at (2 * n) xs) (drop (at + 2 * n) xs) (length-chunk at (2 * n) xs within)

pub length-units : (at n : ℕ) (xs : List ℕ) → at + 2 * n ≤ length xs → length (units (chunk at (2 * n) xs)) ≡ n
length-units at n xs within =
    let long : length (chunk at (2 * n) xs) ≡ 2 * n = length-chunk at (2 * n) xs within in
    length-units_half (chunk at (2 * n) xs) ∙ ap (λ k. k / 2) long ∙ omega arith

-- two bytes are one unit
pub chunk-two : (at : ℕ) (xs : List ℕ) → at + 2 ≤ length xs → chunk at 2 xs ≡ get_or xs at 0 ∷ get_or xs (at + 1) 0 ∷ []
chunk-two at xs within =
    sym (pick_l_whole 0 (chunk at 2 xs) 2 (length-chunk at 2 xs within))
    ∙ ap (λ x. x ∷ get_or (chunk at 2 xs) 1 0 ∷ []) (get_or-chunk at 2 xs 0 0 (omega arith) ∙ ap (λ k. get_or xs k 0) {x = at + 0} {y = at} (omega arith))
    ∙ ap (λ y. get_or xs at 0 ∷ y ∷ []) (get_or-chunk at 2 xs 1 0 (omega arith))

-- the first unit at an offset
pub units-next : (at : ℕ) (xs : List ℕ) → at + 2 ≤ length xs → units (drop at xs) ≡ unit (get_or xs at 0) (get_or xs (at + 1) 0) ∷ units (drop (at + 2) xs)
units-next at xs within = units-block at 1 xs within ∙ ap (λ ys. units ys ++ units (drop (at + 2) xs)) (chunk-two at xs within)

-- first bytes, n units further
pub first_bytes-take : (k n : ℕ) (xs : List ℕ) → 2 * k + 2 * n ≤ length xs → first_bytes (take (2 * (k + n)) xs) ≡ first_bytes (take (2 * k) xs) ++ first_bytes (chunk (2 * k) (2 * n) xs)
first_bytes-take k n xs within =
    ap (λ m. first_bytes (take m xs)) {x = 2 * (k + n)} {y = 2 * k + 2 * n} (omega arith)
    ∙ ap first_bytes (take-add (2 * k) (2 * n) xs)
    ∙ first_bytes-append k (take (2 * k) xs) (chunk (2 * k) (2 * n) xs) (length-take-le (2 * k) xs (omega arith))

pub first_bytes-next : (k : ℕ) (xs : List ℕ) → 2 * k + 2 ≤ length xs → first_bytes (take (2 * (k + 1)) xs) ≡ first_bytes (take (2 * k) xs) ++ get_or xs (2 * k) 0 ∷ []
first_bytes-next k xs within =
    first_bytes-take k 1 xs within ∙ ap (λ ys. first_bytes (take (2 * k) xs) ++ first_bytes ys) (chunk-two (2 * k) xs within)

-- ASCII units are their first bytes with a zero behind each
pub wide-first_bytes : (k : ℕ) (xs : List ℕ) → length xs ≡ 2 * k → AllByRecursion (λ u. u < 128) (units xs) → flat_map wide (first_bytes xs) ≡ xs
wide-first_bytes k [] even all = refl
wide-first_bytes k (x ∷ []) even all = absurd (omega arith)
wide-first_bytes zero (x ∷ y ∷ xs) even all = absurd (omega arith)
wide-first_bytes (suc k) (x ∷ y ∷ xs) even all =
    let low : unit x y < 128 = all.0 in
    let none : 0 ≡ y = omega arith in
    ap (λ z. x ∷ z ∷ flat_map wide (first_bytes xs)) none ∙ ap (λ zs. x ∷ y ∷ zs) (wide-first_bytes k xs (omega arith) all.1)

-- wide bytes, n further
pub wide-take : (k n : ℕ) (xs : List ℕ) → flat_map wide (take (k + n) xs) ≡ flat_map wide (take k xs) ++ flat_map wide (chunk k n xs)
wide-take k n xs = ap (flat_map wide) (take-add k n xs) ∙ flat_map-append wide (take k xs) (chunk k n xs)

-- units, n further, and one further
pub units-take : (k n : ℕ) (xs : List ℕ) → 2 * k + 2 * n ≤ length xs → units (take (2 * (k + n)) xs) ≡ units (take (2 * k) xs) ++ units (chunk (2 * k) (2 * n) xs)
units-take k n xs within =
    ap (λ m. units (take m xs)) {x = 2 * (k + n)} {y = 2 * k + 2 * n} (omega arith)
    ∙ ap units (take-add (2 * k) (2 * n) xs)
    ∙ units-append k (take (2 * k) xs) (chunk (2 * k) (2 * n) xs) (length-take-le (2 * k) xs (omega arith))

pub units-take_one : (k : ℕ) (xs : List ℕ) → 2 * k + 2 ≤ length xs
    → units (take (2 * (k + 1)) xs) ≡ units (take (2 * k) xs) ++ unit (get_or xs (2 * k) 0) (get_or xs (2 * k + 1) 0) ∷ []
units-take_one k xs within = units-take k 1 xs within ∙ ap (λ ys. units (take (2 * k) xs) ++ units ys) (chunk-two (2 * k) xs within)

no_unit : (xs : List ℕ) → length xs < 2 → units xs ≡ []
no_unit [] short = refl
no_unit (x ∷ []) short = refl
no_unit (x ∷ y ∷ xs) short = absurd (omega arith)

-- all units stand before an odd last byte
pub units-take_all : (k : ℕ) (xs : List ℕ) → 2 * k ≤ length xs → length xs < 2 * k + 2 → units (take (2 * k) xs) ≡ units xs
units-take_all k xs within short =
    sym
    (ap units (sym (take-append-drop (2 * k) xs)) ∙ units-append k (take (2 * k) xs) (drop (2 * k) xs) (length-take-le (2 * k) xs within)
    ∙ ap (λ ys. units (take (2 * k) xs) ++ ys) (no_unit (drop (2 * k) xs) (omega (arith, length-drop (2 * k) xs))) ∙ append-nil (units (take (2 * k) xs)))

pub length-units_front : (k : ℕ) (xs : List ℕ) → 2 * k ≤ length xs → length (units (take (2 * k) xs)) ≡ k
length-units_front k xs within = length-units_half (take (2 * k) xs) ∙ ap (λ n. n / 2) (length-take-le (2 * k) xs within) ∙ omega arith
