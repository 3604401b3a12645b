-- Runs of what passes a test, block by block.
use Rattle.std.proofs.Common.{◌≡◌, ℕ, ◌+◌, ◌*◌, ◌<◌, ◌≤◌, Bool, true, false, cond, List, [], ◌∷◌, ◌++◌, length, drop, get_or, refl, sym, ap, ◌∙◌, arith, length-drop}
use Rattle.std.proofs.lemmas.Bool.Decides.{nat_tests}
use Rattle.std.proofs.lemmas.List.Folds.{prefix_len-append}
use Rattle.std.proofs.lemmas.Simd.{chunk-drop, length-chunk}
use Rattle.std.specs.Char.{is_ascii}
use Rattle.std.specs.List.{prefix_len}
use Rattle.std.proofs.lemmas.List.Sums.{prefix_len-le-length}
use lib.Dec.{eqb}
use lib.Lanes.{chunk}
use Rattle.cm_text.specs.Utf16.{unit, units}
use Rattle.cm_text.proofs.UnitLemmas.{units-block, length-units, units-next}

-- a front that passes whole is followed by the run of what is after it
run_whole : (p : ℕ → Bool) (xs ys : List ℕ) → prefix_len p xs ≡ length xs → prefix_len p (xs ++ ys) ≡ length xs + prefix_len p ys
run_whole p xs ys whole =
    let tied : eqb (prefix_len p xs) (length xs) ≡ true = grind (arith, nat_tests) in
    prefix_len-append p xs ys ∙ ap (λ b. cond b (length xs + prefix_len p ys) (prefix_len p xs)) tied

-- a front that does not pass whole has the run
run_some : (p : ℕ → Bool) (xs ys : List ℕ) → prefix_len p xs < length xs → prefix_len p (xs ++ ys) ≡ prefix_len p xs
run_some p xs ys less =
    let tied : eqb (prefix_len p xs) (length xs) ≡ false = grind (arith, nat_tests) in
    prefix_len-append p xs ys ∙ ap (λ b. cond b (length xs + prefix_len p ys) (prefix_len p xs)) tied

-- a block of bytes that is ASCII, and one that is not
pub bytes_whole : (at n : ℕ) (xs : List ℕ) → at + n ≤ length xs → prefix_len is_ascii (chunk at n xs) ≡ n
    → prefix_len is_ascii (drop at xs) ≡ n + prefix_len is_ascii (drop (at + n) xs)
bytes_whole at n xs within whole =
    let long : length (chunk at n xs) ≡ n = length-chunk at n xs within in
    ap (prefix_len is_ascii) (chunk-drop at n xs) ∙ run_whole is_ascii (chunk at n xs) (drop (at + n) xs) (whole ∙ sym long)
    ∙ ap (λ k. k + prefix_len is_ascii (drop (at + n) xs)) long

pub bytes_some : (at n : ℕ) (xs : List ℕ) → at + n ≤ length xs → prefix_len is_ascii (chunk at n xs) < n
    → prefix_len is_ascii (drop at xs) ≡ prefix_len is_ascii (chunk at n xs)
bytes_some at n xs within less =
    let long : length (chunk at n xs) ≡ n = length-chunk at n xs within in
    ap (prefix_len is_ascii) (chunk-drop at n xs) ∙ run_some is_ascii (chunk at n xs) (drop (at + n) xs) (omega arith)

-- a block of units that is ASCII, and one that is not
pub units_whole : (at n : ℕ) (xs : List ℕ) → at + 2 * n ≤ length xs → prefix_len is_ascii (units (chunk at (2 * n) xs)) ≡ n
    → prefix_len is_ascii (units (drop at xs)) ≡ n + prefix_len is_ascii (units (drop (at + 2 * n) xs))
units_whole at n xs within whole =
    let long : length (units (chunk at (2 * n) xs)) ≡ n = length-units at n xs within in
    ap (prefix_len is_ascii) (units-block at n xs within) ∙ run_whole is_ascii (units (chunk at (2 * n) xs)) (units (drop (at + 2 * n) xs)) (whole ∙ sym long)
    ∙ ap (λ k. k + prefix_len is_ascii (units (drop (at + 2 * n) xs))) long

pub units_some : (at n : ℕ) (xs : List ℕ) → at + 2 * n ≤ length xs → prefix_len is_ascii (units (chunk at (2 * n) xs)) < n
    → prefix_len is_ascii (units (drop at xs)) ≡ prefix_len is_ascii (units (chunk at (2 * n) xs))
units_some at n xs within less =
    let long : length (units (chunk at (2 * n) xs)) ≡ n = length-units at n xs within in
    ap (prefix_len is_ascii) (units-block at n xs within) ∙ run_some is_ascii (units (chunk at (2 * n) xs)) (units (drop (at + 2 * n) xs)) (omega arith)

run_le : (xs : List ℕ) (n : ℕ) → length xs ≡ n → prefix_len is_ascii xs ≤ n
run_le xs n long = omega (arith, prefix_len-le-length is_ascii xs)

-- a block that passes whole, in a search for the end of a run
pub bytes_step : (at k run total : ℕ) (xs : List ℕ) → at + 16 ≤ length xs → run ≡ prefix_len is_ascii (chunk at 16 xs) → 16 ≤ run
    → k + prefix_len is_ascii (drop at xs) ≡ total → k + 16 + prefix_len is_ascii (drop (at + 16) xs) ≡ total
bytes_step at k run total xs within found whole all =
    let most : prefix_len is_ascii (chunk at 16 xs) ≤ 16 = run_le (chunk at 16 xs) 16 (length-chunk at 16 xs within) in
    let next : prefix_len is_ascii (drop at xs) ≡ 16 + prefix_len is_ascii (drop (at + 16) xs) = bytes_whole at 16 xs within (omega arith) in
    omega arith

-- the same in units
pub units_step : (at k run total : ℕ) (xs : List ℕ) → at + 32 ≤ length xs → run ≡ prefix_len is_ascii (units (chunk at 32 xs)) → 16 ≤ run
    → k + prefix_len is_ascii (units (drop at xs)) ≡ total → k + 16 + prefix_len is_ascii (units (drop (at + 32) xs)) ≡ total
units_step at k run total xs within found whole all =
    let most : prefix_len is_ascii (units (chunk at 32 xs)) ≤ 16 = run_le (units (chunk at 32 xs)) 16 (length-units at 16 xs within) in
    let next : prefix_len is_ascii (units (drop at xs)) ≡ 16 + prefix_len is_ascii (units (drop (at + 32) xs)) = units_whole at 16 xs within (omega arith) in
    omega arith

pub units_run_le : (at : ℕ) (xs : List ℕ) → at + 32 ≤ length xs → prefix_len is_ascii (units (chunk at 32 xs)) ≤ 16
units_run_le at xs within = run_le (units (chunk at 32 xs)) 16 (length-units at 16 xs within)

-- one unit that is ASCII, and one that is not
pub units_one : (at k total : ℕ) (xs : List ℕ) → at + 2 ≤ length xs → get_or xs at 0 < 128 → get_or xs (at + 1) 0 ≡ 0
    → k + prefix_len is_ascii (units (drop at xs)) ≡ total → k + 1 + prefix_len is_ascii (units (drop (at + 2) xs)) ≡ total
units_one at k total xs within low high all =
    let u = unit (get_or xs at 0) (get_or xs (at + 1) 0) in
    let small : is_ascii u ≡ true = grind (arith, nat_tests) in
    let next : prefix_len is_ascii (units (drop at xs)) ≡ 1 + prefix_len is_ascii (units (drop (at + 2) xs)) =
    ap (prefix_len is_ascii) (units-next at xs within) ∙ ap (λ b. cond b (1 + prefix_len is_ascii (units (drop (at + 2) xs))) 0) small in
    omega arith

pub units_none : (at k total : ℕ) (xs : List ℕ) → at + 2 ≤ length xs → 128 ≤ unit (get_or xs at 0) (get_or xs (at + 1) 0)
    → k + prefix_len is_ascii (units (drop at xs)) ≡ total → k ≡ total
units_none at k total xs within past all =
    let u = unit (get_or xs at 0) (get_or xs (at + 1) 0) in
    let large : is_ascii u ≡ false = grind (arith, nat_tests) in
    let next : prefix_len is_ascii (units (drop at xs)) ≡ 0 =
    ap (prefix_len is_ascii) (units-next at xs within) ∙ ap (λ b. cond b (1 + prefix_len is_ascii (units (drop (at + 2) xs))) 0) large in
    omega arith

-- where less than a unit is left
no_unit : (xs : List ℕ) → length xs < 2 → units xs ≡ []
no_unit [] short = refl
no_unit (x ∷ []) short = refl
no_unit (x ∷ y ∷ xs) short = absurd (omega arith)

pub units_end : (at k total : ℕ) (xs : List ℕ) → length xs < at + 2 → k + prefix_len is_ascii (units (drop at xs)) ≡ total → k ≡ total
units_end at k total xs short all =
    let none : prefix_len is_ascii (units (drop at xs)) ≡ 0 = ap (prefix_len is_ascii) (no_unit (drop at xs) (omega (arith, length-drop at xs))) in
    omega arith
