-- Sixteen lanes against their plain definitions.
use Rattle.std.proofs.Common.{◌≡◌, ℕ, ◌+◌, ◌*◌, ◌≤◌, ◌%◌, ◌/◌, ◌^◌, Bool, true, false, cond, not, List, [], ◌∷◌, ◌++◌, length, map, refl, sym, ap, ◌∙◌, arith, nat_lt, replicate, w8, subst, take, drop, zero, suc, append_assoc}
use Rattle.std.proofs.lemmas.Bool.Decides.{nat_tests}
use Rattle.std.proofs.lemmas.Simd.{zip2_splat, zip2_splat_left, bitmask_splat, pick_l_whole, length-chunk, splat_is_map, take_more_put_chunk, length-put_chunk, tops_compared, mask_l-mod, length-zip2}
use Rattle.std.proofs.Math.Seq.{take-add}
use Rattle.std.proofs.lemmas.List.{drop-drop}
use Rattle.std.specs.Char.{is_ascii}
use Rattle.std.specs.List.{prefix_len, flat_map}
use Rattle.cm_text.specs.Ascii.{wide}
use lib.Dec.{leb, eqb}
use lib.Lanes.{zip2, mask_l, top, sel_l, chunk, pick_l, put_chunk}
use Rattle.cm_text.specs.Utf16.{unit, units, first_bytes}
use Rattle.cm_text.specs.Lanes.{second_bytes, mark, below_e0, is_plain}

-- tests that agree give one run
pub prefix_len-same : (p q : ℕ → Bool) → ((x : ℕ) → p x ≡ q x) → (xs : List ℕ) → prefix_len p xs ≡ prefix_len q xs
prefix_len-same p q same [] = refl
prefix_len-same p q same (x ∷ xs) = ap (λ b. cond b (1 + prefix_len p xs) 0) (same x) ∙ ap (λ n. cond (q x) (1 + n) 0) (prefix_len-same p q same xs)

-- the mask of the lanes from k on, where the splat stands on the left
pub mask_from : (n k : ℕ) (xs : List ℕ) → length xs ≡ n → n ≤ 64
    → mask_l (map (top 7) (zip2 (λ a b. cond (leb a b) 255 0) (replicate n k) xs)) % 2 ^ 64 ≡ mask_l (map (λ x. leb k x) xs)
mask_from n k xs long few =
    ap (λ ys. mask_l (map (top 7) ys) % 2 ^ 64)
    (zip2_splat_left (λ a b. cond (leb a b) 255 0) k n xs long ∙ sym (zip2_splat (λ a b. cond (leb b a) 255 0) xs n k long))
    ∙ bitmask_splat w8 (λ x y. leb y x) xs n k long few

not_from : (k x : ℕ) → not (leb k x) ≡ nat_lt x k
not_from k x = grind (arith, nat_tests)

pub prefix_len-below : (k : ℕ) (xs : List ℕ) → prefix_len (λ x. not (leb k x)) xs ≡ prefix_len (λ x. nat_lt x k) xs
prefix_len-below k xs = prefix_len-same (λ x. not (leb k x)) (λ x. nat_lt x k) (not_from k) xs

-- two loads of sixteen lanes are the thirty-two bytes
two_chunks : (at : ℕ) (xs : List ℕ) → chunk at 16 xs ++ chunk (at + 16) 16 xs ≡ chunk at 32 xs
two_chunks at xs = ap (λ ys. chunk at 16 xs ++ take 16 ys) (sym (drop-drop 16 at xs)) ∙ sym (take-add 16 16 (drop at xs))

abbrev evens : List ℕ
evens = 0 ∷ 2 ∷ 4 ∷ 6 ∷ 8 ∷ 10 ∷ 12 ∷ 14 ∷ 16 ∷ 18 ∷ 20 ∷ 22 ∷ 24 ∷ 26 ∷ 28 ∷ 30 ∷ []

abbrev odds : List ℕ
odds = 1 ∷ 3 ∷ 5 ∷ 7 ∷ 9 ∷ 11 ∷ 13 ∷ 15 ∷ 17 ∷ 19 ∷ 21 ∷ 23 ∷ 25 ∷ 27 ∷ 29 ∷ 31 ∷ []

pub pick-evens : (at : ℕ) (xs : List ℕ) → at + 32 ≤ length xs → pick_l 0 (chunk at 16 xs ++ chunk (at + 16) 16 xs) evens ≡ first_bytes (chunk at 32 xs)
pick-evens at xs long =
    let ys = chunk at 32 xs in
    ap (λ zs. pick_l 0 zs evens) (two_chunks at xs)
    ∙ subst (λ zs. pick_l 0 ys evens ≡ first_bytes zs) (pick_l_whole 0 ys 32 (length-chunk at 32 xs long)) refl

pub pick-odds : (at : ℕ) (xs : List ℕ) → at + 32 ≤ length xs → pick_l 0 (chunk at 16 xs ++ chunk (at + 16) 16 xs) odds ≡ second_bytes (chunk at 32 xs)
pick-odds at xs long =
    let ys = chunk at 32 xs in
    ap (λ zs. pick_l 0 zs odds) (two_chunks at xs)
    ∙ subst (λ zs. pick_l 0 ys odds ≡ second_bytes zs) (pick_l_whole 0 ys 32 (length-chunk at 32 xs long)) refl

-- the units of a list, by its first and its second bytes
pub units-zip2 : (xs : List ℕ) → units xs ≡ zip2 unit (first_bytes xs) (second_bytes xs)
units-zip2 [] = refl
units-zip2 (x ∷ []) = refl
units-zip2 (x ∷ y ∷ xs) = ap (λ us. unit x y ∷ us) (units-zip2 xs)

-- a lane that is not below 0x80 where the unit is not
marked_lane : (low high : ℕ) → cond (top 7 (cond (not (eqb high 0)) 255 0)) 255 low ≡ mark low high
marked_lane low zero = refl
marked_lane low (suc high) =
    let other : eqb (suc high) 0 ≡ false = grind (arith, nat_tests) in
    ap (λ b. cond (top 7 (cond (not b) 255 0)) 255 low) other ∙ ap (λ b. cond b low 255) (sym other)

marked_lanes : (lows highs : List ℕ)
    → sel_l (map (top 7) (zip2 (λ a b. cond (not (eqb a b)) 255 0) highs (map (λ _. 0) highs))) (map (λ _. 255) highs) lows ≡ zip2 mark lows highs
marked_lanes [] [] = refl
marked_lanes [] (high ∷ highs) = refl
marked_lanes (low ∷ lows) [] = refl
marked_lanes (low ∷ lows) (high ∷ highs) =
    ap (λ x. x ∷ sel_l (map (top 7) (zip2 (λ a b. cond (not (eqb a b)) 255 0) highs (map (λ _. 0) highs))) (map (λ _. 255) highs) lows) (marked_lane low high)
    ∙ ap (λ xs. mark low high ∷ xs) (marked_lanes lows highs)

-- what selecting by the second bytes makes
pub marked_16 : (lows highs : List ℕ) → length highs ≡ 16
    → sel_l (map (top 7) (zip2 (λ a b. cond (not (eqb a b)) 255 0) highs (replicate 16 0))) (replicate 16 255) lows ≡ zip2 mark lows highs
marked_16 lows highs high =
    ap (λ zs. sel_l (map (top 7) (zip2 (λ a b. cond (not (eqb a b)) 255 0) highs zs)) (replicate 16 255) lows) (splat_is_map highs 16 0 high)
    ∙ ap (λ zs. sel_l (map (top 7) (zip2 (λ a b. cond (not (eqb a b)) 255 0) highs (map (λ _. 0) highs))) zs lows) (splat_is_map highs 16 255 high)
    ∙ marked_lanes lows highs

mark-ascii : (low high : ℕ) → is_ascii (mark low high) ≡ is_ascii (unit low high)
mark-ascii low zero = ap is_ascii {x = low} {y = unit low zero} (omega arith)
mark-ascii low (suc high) =
    let past : is_ascii (unit low (suc high)) ≡ false = grind (arith, nat_tests) in
    let other : eqb (suc high) 0 ≡ false = grind (arith, nat_tests) in
    ap (λ b. is_ascii (cond b low 255)) other ∙ sym past

-- a run in the lanes that are marked is a run in the units
pub run-marked : (lows highs : List ℕ) → prefix_len is_ascii (zip2 mark lows highs) ≡ prefix_len is_ascii (zip2 unit lows highs)
run-marked [] highs = refl
run-marked (low ∷ lows) [] = refl
run-marked (low ∷ lows) (high ∷ highs) =
    ap (λ b. cond b (1 + prefix_len is_ascii (zip2 mark lows highs)) 0) (mark-ascii low high)
    ∙ ap (λ n. cond (is_ascii (unit low high)) (1 + n) 0) (run-marked lows highs)

-- a chunk as units of its own bytes: what interleaving with zeros makes
abbrev firsts : List ℕ
firsts = 0 ∷ 16 ∷ 1 ∷ 17 ∷ 2 ∷ 18 ∷ 3 ∷ 19 ∷ 4 ∷ 20 ∷ 5 ∷ 21 ∷ 6 ∷ 22 ∷ 7 ∷ 23 ∷ []

abbrev lasts : List ℕ
lasts = 8 ∷ 24 ∷ 9 ∷ 25 ∷ 10 ∷ 26 ∷ 11 ∷ 27 ∷ 12 ∷ 28 ∷ 13 ∷ 29 ∷ 14 ∷ 30 ∷ 15 ∷ 31 ∷ []

interleaved : (ys : List ℕ) → length ys ≡ 16 → pick_l 0 (ys ++ replicate 16 0) firsts ++ pick_l 0 (ys ++ replicate 16 0) lasts ≡ flat_map wide ys
interleaved ys long =
    subst (λ zs. pick_l 0 (zs ++ replicate 16 0) firsts ++ pick_l 0 (zs ++ replicate 16 0) lasts ≡ flat_map wide zs) (pick_l_whole 0 ys 16 long) refl

-- two stores of sixteen lanes, one after the other
two_stores : (to : ℕ) (out xs ys : List ℕ) → length xs ≡ 16 → length ys ≡ 16 → to + 32 ≤ length out
    → take (to + 32) (put_chunk (to + 16) (put_chunk to out xs) ys) ≡ take to out ++ (xs ++ ys)
two_stores to out xs ys one two room =
    let held : length (put_chunk to out xs) ≡ length out = length-put_chunk to out xs in
    take_more_put_chunk (to + 16) (put_chunk to out xs) ys (to + 32) (omega arith) (omega arith)
    ∙ ap (λ zs. zs ++ ys) (take_more_put_chunk to out xs (to + 16) (omega arith) (omega arith))
    ∙ append_assoc (take to out) xs ys

pub widened : (at to : ℕ) (bytes out : List ℕ) → at + 16 ≤ length bytes → to + 32 ≤ length out
    → let ys = chunk at 16 bytes ++ replicate 16 0 in
    take (to + 32) (put_chunk (to + 16) (put_chunk to out (pick_l 0 ys firsts)) (pick_l 0 ys lasts)) ≡ take to out ++ flat_map wide (chunk at 16 bytes)
widened at to bytes out within room =
    let ys = chunk at 16 bytes ++ replicate 16 0 in
    two_stores to out (pick_l 0 ys firsts) (pick_l 0 ys lasts) refl refl room
    ∙ ap (λ zs. take to out ++ zs) (interleaved (chunk at 16 bytes) (length-chunk at 16 bytes within))

-- a run of units, by their first and their second bytes
pub run_from_parts : (xs lows highs : List ℕ) → lows ≡ first_bytes xs → highs ≡ second_bytes xs
    → prefix_len is_ascii (zip2 unit lows highs) ≡ prefix_len is_ascii (units xs)
run_from_parts xs lows highs low high =
    ap (λ ys. prefix_len is_ascii (zip2 unit ys highs)) low
    ∙ ap (λ ys. prefix_len is_ascii (zip2 unit (first_bytes xs) ys)) high
    ∙ ap (prefix_len is_ascii) (sym (units-zip2 xs))

length-first_bytes : (xs : List ℕ) → length (first_bytes xs) ≡ length xs / 2
length-first_bytes [] = refl
length-first_bytes (x ∷ []) = omega arith
length-first_bytes (x ∷ y ∷ xs) = omega (arith, length-first_bytes xs)

pub narrowed : (at to : ℕ) (bytes out lows : List ℕ) → at + 32 ≤ length bytes → to + 16 ≤ length out → lows ≡ first_bytes (chunk at 32 bytes)
    → take (to + 16) (put_chunk to out lows) ≡ take to out ++ first_bytes (chunk at 32 bytes)
narrowed at to bytes out lows within room low =
    let held : length lows ≡ 16 = ap length low ∙ length-first_bytes (chunk at 32 bytes) ∙ ap (λ n. n / 2) (length-chunk at 32 bytes within) in
    take_more_put_chunk to out lows (to + 16) (omega arith) room ∙ ap (λ ys. take to out ++ ys) low

-- the second bytes of units that are no surrogates
selected_e0 : (xs : List ℕ)
    → sel_l (map (top 7) (zip2 (λ a b. cond (leb a b) 255 0) (map (λ _. 224) xs) xs)) (map (λ _. 0) xs) xs ≡ map below_e0 xs
selected_e0 [] = refl
selected_e0 (x ∷ xs) =
    ap (λ y. y ∷ sel_l (map (top 7) (zip2 (λ a b. cond (leb a b) 255 0) (map (λ _. 224) xs) xs)) (map (λ _. 0) xs) xs) (one (leb 224 x))
    ∙ ap (λ ys. below_e0 x ∷ ys) (selected_e0 xs)
  where
    one : (b : Bool) → cond (top 7 (cond b 255 0)) 0 x ≡ cond b 0 x
    one true = refl
    one false = refl

pub selected_e0_16 : (xs : List ℕ) → length xs ≡ 16
    → sel_l (map (top 7) (zip2 (λ a b. cond (leb a b) 255 0) (replicate 16 224) xs)) (replicate 16 0) xs ≡ map below_e0 xs
selected_e0_16 xs long =
    ap (λ zs. sel_l (map (top 7) (zip2 (λ a b. cond (leb a b) 255 0) zs xs)) (replicate 16 0) xs) (splat_is_map xs 16 224 long)
    ∙ ap (λ zs. sel_l (map (top 7) (zip2 (λ a b. cond (leb a b) 255 0) (map (λ _. 224) xs) xs)) zs xs) (splat_is_map xs 16 0 long)
    ∙ selected_e0 xs

plain_by_test : (x : ℕ) → nat_lt (below_e0 x) 216 ≡ is_plain x
plain_by_test x = grind (arith, nat_tests)

pub plain_run : (xs : List ℕ) → prefix_len (λ x. nat_lt x 216) (map below_e0 xs) ≡ prefix_len is_plain xs
plain_run [] = refl
plain_run (x ∷ xs) =
    ap (λ b. cond b (1 + prefix_len (λ y. nat_lt y 216) (map below_e0 xs)) 0) (plain_by_test x) ∙ ap (λ n. cond (is_plain x) (1 + n) 0) (plain_run xs)

-- the bytes that no ASCII unit reaches, n times
abbrev past_ascii : ℕ → List ℕ
past_ascii zero = []
past_ascii (suc n) = 128 ∷ 1 ∷ past_ascii n

no_bit : (b : Bool) (n : ℕ) → cond b 1 0 + 2 * n ≡ 0 → (b ≡ false) × (n ≡ 0)
no_bit true n none = absurd (omega arith)
no_bit false n none = (refl, omega arith)

unmarked : (n : ℕ) (xs : List ℕ) → length xs ≡ 2 * n → mask_l (zip2 leb (past_ascii n) xs) ≡ 0 → prefix_len is_ascii (units xs) ≡ n
unmarked zero [] even none = refl
unmarked zero (x ∷ xs) even none = absurd (omega arith)
unmarked (suc n) [] even none = absurd (omega arith)
unmarked (suc n) (x ∷ []) even none = absurd (omega arith)
unmarked (suc n) (x ∷ y ∷ xs) even none =
    let one = no_bit (leb 128 x) (mask_l (leb 1 y ∷ zip2 leb (past_ascii n) xs)) none in
    let two = no_bit (leb 1 y) (mask_l (zip2 leb (past_ascii n) xs)) one.1 in
    let low : leb 128 x ≡ false = one.0 in
    let high : leb 1 y ≡ false = two.0 in
    let ascii : is_ascii (unit x y) ≡ true = grind (arith, nat_tests) in
    ap (λ b. cond b (1 + prefix_len is_ascii (units xs)) 0) ascii ∙ ap (λ k. 1 + k) (unmarked n xs (omega arith) two.1) ∙ omega arith

-- a block of thirty-two units none of whose bytes reaches them
pub units_32 : (xs : List ℕ) → length xs ≡ 64
    → mask_l (map (top 7) (zip2 (λ a b. cond (leb a b) 255 0) (past_ascii 32) xs)) % 2 ^ 64 ≡ 0 → prefix_len is_ascii (units xs) ≡ 32
units_32 xs long none =
    let tests : map (top 7) (zip2 (λ a b. cond (leb a b) 255 0) (past_ascii 32) xs) ≡ zip2 leb (past_ascii 32) xs = tops_compared w8 leb (past_ascii 32) xs in
    let few : length (zip2 leb (past_ascii 32) xs) ≤ 64 = omega (arith, length-zip2 leb (past_ascii 32) xs (sym long)) in
    unmarked 32 xs long (sym (mask_l-mod (zip2 leb (past_ascii 32) xs) 64 few) ∙ ap (λ ms. mask_l ms % 2 ^ 64) (sym tests) ∙ none)
