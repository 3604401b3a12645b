-- Runs of ASCII that are written block by block, where a block may write past the run.
use Rattle.std.proofs.Common.{◌≡◌, ℕ, ◌+◌, ◌*◌, ◌<◌, ◌≤◌, List, [], ◌∷◌, ◌++◌, length, take, drop, get_or, refl, sym, ap, ◌∙◌, arith, zero, suc, append_assoc, length-drop, length-set, get_or-drop, set, true}
use Rattle.std.proofs.lemmas.List.{take-take, length-take-le, drop-drop, take_more, take_more_set}
use Rattle.std.proofs.Math.Seq.{take-append-add}
use Rattle.std.specs.Char.{is_ascii}
use Rattle.std.specs.List.{prefix_len, flat_map}
use lib.Lanes.{chunk}
use Rattle.cm_text.specs.Ascii.{wide}
use Rattle.cm_text.specs.Utf16.{units, first_bytes}
use Rattle.cm_text.proofs.UnitLemmas.{wide-take, first_bytes-take, first_bytes-next}
use Rattle.cm_text.proofs.RunLemmas.{bytes_step, units_step, units_one}
use Rattle.std.proofs.lemmas.List.Concat.{flat_map-append}
use Rattle.std.proofs.lemmas.List.Sums.{prefix_len-drop_yes}
use Rattle.std.proofs.lemmas.Bool.Decides.{nat_tests}

-- what a loop that widens a run keeps
pub record Widens (bytes : List ℕ) (at : ℕ) (old : List ℕ) (to : ℕ) (out : List ℕ) (run : ℕ) : Type 0 where
  pub within : at + run ≤ length bytes
  pub left : run + prefix_len is_ascii (drop (at + run) bytes) ≡ prefix_len is_ascii (drop at bytes)
  pub written : take (to + 2 * run) out ≡ take to old ++ flat_map wide (take run (drop at bytes))

-- the same for one that narrows
pub record Narrows (bytes : List ℕ) (at : ℕ) (old : List ℕ) (to : ℕ) (out : List ℕ) (run : ℕ) : Type 0 where
  pub within : at + 2 * run ≤ length bytes
  pub left : run + prefix_len is_ascii (units (drop (at + 2 * run) bytes)) ≡ prefix_len is_ascii (units (drop at bytes))
  pub written : take (to + run) out ≡ take to old ++ first_bytes (take (2 * run) (drop at bytes))

-- the front of what was written is a front, more bytes of it
cut : (m n : ℕ) (out before new : List ℕ) → length before + m ≤ n → take n out ≡ before ++ new → take (length before + m) out ≡ before ++ take m new
cut m n out before new le is = sym (take-take (length before + m) n out le) ∙ ap (take (length before + m)) is ∙ take-append-add before new m

take-wide : (k : ℕ) (xs : List ℕ) → take (2 * k) (flat_map wide xs) ≡ flat_map wide (take k xs)
take-wide zero xs = refl
take-wide (suc k) [] = ap (λ n. take n []) {x = 2 * suc k} {y = suc (suc (2 * k))} (omega arith)
take-wide (suc k) (x ∷ xs) =
    ap (λ n. take n (flat_map wide (x ∷ xs))) {x = 2 * suc k} {y = suc (suc (2 * k))} (omega arith) ∙ ap (λ ys. x ∷ 0 ∷ ys) (take-wide k xs)

take-first_bytes : (k : ℕ) (xs : List ℕ) → take k (first_bytes xs) ≡ first_bytes (take (2 * k) xs)
take-first_bytes zero xs = refl
take-first_bytes (suc k) [] = ap (λ n. first_bytes (take n [])) {x = suc (suc (2 * k))} {y = 2 * suc k} (omega arith)
take-first_bytes (suc k) (x ∷ []) = ap (λ n. first_bytes (take n (x ∷ []))) {x = suc (suc (2 * k))} {y = 2 * suc k} (omega arith)
take-first_bytes (suc k) (x ∷ y ∷ xs) =
    ap (λ ys. x ∷ ys) (take-first_bytes k xs) ∙ ap (λ n. first_bytes (take n (x ∷ y ∷ xs))) {x = suc (suc (2 * k))} {y = 2 * suc k} (omega arith)

-- a front of a block is a front of what is left
front_of_block : (at run more n : ℕ) (bytes : List ℕ) → more ≤ n → take more (chunk (at + run) n bytes) ≡ chunk run more (drop at bytes)
front_of_block at run more n bytes le = take-take more n (drop (at + run) bytes) le ∙ ap (take more) (sym (drop-drop run at bytes))

pub widen_more : (at run to more : ℕ) (bytes old out new : List ℕ) → more ≤ 16 → to + 2 * run ≤ length out
    → take (to + 2 * run) out ≡ take to old ++ flat_map wide (take run (drop at bytes))
    → take (to + 2 * run + 32) new ≡ take (to + 2 * run) out ++ flat_map wide (chunk (at + run) 16 bytes)
    → take (to + 2 * (run + more)) new ≡ take to old ++ flat_map wide (take (run + more) (drop at bytes))
widen_more at run to more bytes old out new few room before is =
    let long : length (take (to + 2 * run) out) ≡ to + 2 * run = length-take-le (to + 2 * run) out room in
    let rest = drop at bytes in
    ap (λ n. take n new) {x = to + 2 * (run + more)} {y = length (take (to + 2 * run) out) + 2 * more} (omega arith)
    ∙ cut (2 * more) (to + 2 * run + 32) new (take (to + 2 * run) out) (flat_map wide (chunk (at + run) 16 bytes)) (omega arith) is
    ∙ ap (λ ys. take (to + 2 * run) out ++ ys) (take-wide more (chunk (at + run) 16 bytes) ∙ ap (flat_map wide) (front_of_block at run more 16 bytes few))
    ∙ ap (λ ys. ys ++ flat_map wide (chunk run more rest)) before
    ∙ append_assoc (take to old) (flat_map wide (take run rest)) (flat_map wide (chunk run more rest))
    ∙ ap (λ ys. take to old ++ ys) (sym (wide-take run more rest))

pub narrow_more : (at run to more : ℕ) (bytes old out new : List ℕ) → more ≤ 16 → at + 2 * run + 32 ≤ length bytes → to + run ≤ length out
    → take (to + run) out ≡ take to old ++ first_bytes (take (2 * run) (drop at bytes))
    → take (to + run + 16) new ≡ take (to + run) out ++ first_bytes (chunk (at + 2 * run) 32 bytes)
    → take (to + (run + more)) new ≡ take to old ++ first_bytes (take (2 * (run + more)) (drop at bytes))
narrow_more at run to more bytes old out new few within room before is =
    let long : length (take (to + run) out) ≡ to + run = length-take-le (to + run) out room in
    let rest = drop at bytes in
    let room_in : 2 * run + 2 * more ≤ length rest = omega (arith, length-drop at bytes) in
    ap (λ n. take n new) {x = to + (run + more)} {y = length (take (to + run) out) + more} (omega arith)
    ∙ cut more (to + run + 16) new (take (to + run) out) (first_bytes (chunk (at + 2 * run) 32 bytes)) (omega arith) is
    ∙ ap (λ ys. take (to + run) out ++ ys) (take-first_bytes more (chunk (at + 2 * run) 32 bytes) ∙ ap first_bytes (front_of_block at (2 * run) (2 * more) 32 bytes (omega arith)))
    ∙ ap (λ ys. ys ++ first_bytes (chunk (2 * run) (2 * more) rest)) before
    ∙ append_assoc (take to old) (first_bytes (take (2 * run) rest)) (first_bytes (chunk (2 * run) (2 * more) rest))
    ∙ ap (λ ys. take to old ++ ys) (sym (first_bytes-take run more rest room_in))

-- a block of a run that is widened
pub widens_on : (bytes : List ℕ) (at : ℕ) (old : List ℕ) (to : ℕ) (out : List ℕ) (run : ℕ) (new : List ℕ) (more : ℕ) → Widens bytes at old to out run
    → at + run + 16 ≤ length bytes → to + 2 * run ≤ length out → more ≡ prefix_len is_ascii (chunk (at + run) 16 bytes) → 16 ≤ more
    → take (to + 2 * run + 32) new ≡ take (to + 2 * run) out ++ flat_map wide (chunk (at + run) 16 bytes)
    → Widens bytes at old to new (run + 16)
widens_on bytes at old to out run new more so_far within room found whole is = record {
  within = omega arith;
  left = ap (λ n. run + 16 + prefix_len is_ascii (drop n bytes)) {x = at + (run + 16)} {y = at + run + 16} (omega arith)
      ∙ bytes_step (at + run) run more (prefix_len is_ascii (drop at bytes)) bytes within found whole so_far.left;
  written = widen_more at run to 16 bytes old out new (omega arith) room so_far.written is;
}

-- two elements stored, one after the other
take_two_set : (n x y : ℕ) (xs : List ℕ) → n + 2 ≤ length xs → take (n + 2) (set (set xs n x) (n + 1) y) ≡ take n xs ++ x ∷ y ∷ []
take_two_set n x y xs room =
    let long : length (set xs n x) ≡ length xs = length-set xs n x in
    ap (λ k. take k (set (set xs n x) (n + 1) y)) {x = n + 2} {y = n + 1 + 1} (omega arith)
    ∙ take_more_set (set xs n x) (n + 1) y (omega arith)
    ∙ ap (λ ys. ys ++ y ∷ []) (take_more_set xs n x (omega arith))
    ∙ append_assoc (take n xs) (x ∷ []) (y ∷ [])

one_wide : (k : ℕ) (xs : List ℕ) → k < length xs → flat_map wide (take (k + 1) xs) ≡ flat_map wide (take k xs) ++ get_or xs k 0 ∷ 0 ∷ []
one_wide k xs within = ap (flat_map wide) (take_more xs k 0 within) ∙ flat_map-append wide (take k xs) (get_or xs k 0 ∷ [])

-- a byte of a run that is widened
pub widens_one : (bytes : List ℕ) (at : ℕ) (old : List ℕ) (to : ℕ) (out : List ℕ) (run : ℕ) → Widens bytes at old to out run
    → at + run < length bytes → get_or bytes (at + run) 0 < 128 → to + 2 * prefix_len is_ascii (drop at bytes) ≤ length out
    → Widens bytes at old to (set (set out (to + 2 * run) (get_or bytes (at + run) 0)) (to + 2 * run + 1) 0) (run + 1)
widens_one bytes at old to out run so_far within small room =
    let b = get_or bytes (at + run) 0 in
    let ascii : is_ascii b ≡ true = grind (arith, nat_tests) in
    let next : prefix_len is_ascii (drop (at + run) bytes) ≡ 1 + prefix_len is_ascii (drop (at + run + 1) bytes) = prefix_len-drop_yes is_ascii bytes (at + run) 0 within ascii in
    let place : prefix_len is_ascii (drop (at + (run + 1)) bytes) ≡ prefix_len is_ascii (drop (at + run + 1) bytes) =
    ap (λ n. prefix_len is_ascii (drop n bytes)) {x = at + (run + 1)} {y = at + run + 1} (omega arith) in
    let left = so_far.left in
    let rest = drop at bytes in
    record {
      within = omega arith;
      left = omega arith;
      written = ap (λ n. take n (set (set out (to + 2 * run) b) (to + 2 * run + 1) 0)) {x = to + 2 * (run + 1)} {y = to + 2 * run + 2} (omega arith)
          ∙ take_two_set (to + 2 * run) b 0 out (omega arith)
          ∙ ap (λ ys. ys ++ b ∷ 0 ∷ []) so_far.written
          ∙ append_assoc (take to old) (flat_map wide (take run rest)) (b ∷ 0 ∷ [])
          ∙ ap (λ ys. take to old ++ ys)
          (ap (λ x. flat_map wide (take run rest) ++ x ∷ 0 ∷ []) (sym (get_or-drop at bytes run 0)) ∙ sym (one_wide run rest (omega (arith, length-drop at bytes))));
    }

-- a block of a run that is narrowed
pub narrows_on : (bytes : List ℕ) (at : ℕ) (old : List ℕ) (to : ℕ) (out : List ℕ) (run : ℕ) (new : List ℕ) (more : ℕ) → Narrows bytes at old to out run
    → at + 2 * run + 32 ≤ length bytes → to + run ≤ length out → more ≡ prefix_len is_ascii (units (chunk (at + 2 * run) 32 bytes)) → 16 ≤ more
    → take (to + run + 16) new ≡ take (to + run) out ++ first_bytes (chunk (at + 2 * run) 32 bytes)
    → Narrows bytes at old to new (run + 16)
narrows_on bytes at old to out run new more so_far within room found whole is = record {
  within = omega arith;
  left = ap (λ n. run + 16 + prefix_len is_ascii (units (drop n bytes))) {x = at + 2 * (run + 16)} {y = at + 2 * run + 32} (omega arith)
      ∙ units_step (at + 2 * run) run more (prefix_len is_ascii (units (drop at bytes))) bytes within found whole so_far.left;
  written = narrow_more at run to 16 bytes old out new (omega arith) within room so_far.written is;
}

-- a unit of a run that is narrowed
pub narrows_one : (bytes : List ℕ) (at : ℕ) (old : List ℕ) (to : ℕ) (out : List ℕ) (run : ℕ) → Narrows bytes at old to out run
    → at + 2 * run + 2 ≤ length bytes → get_or bytes (at + 2 * run) 0 < 128 → get_or bytes (at + 2 * run + 1) 0 ≡ 0
    → to + prefix_len is_ascii (units (drop at bytes)) ≤ length out
    → Narrows bytes at old to (set out (to + run) (get_or bytes (at + 2 * run) 0)) (run + 1)
narrows_one bytes at old to out run so_far within small zero_high room =
    let b = get_or bytes (at + 2 * run) 0 in
    let rest = drop at bytes in
    let next : run + 1 + prefix_len is_ascii (units (drop (at + 2 * run + 2) bytes)) ≡ prefix_len is_ascii (units rest) =
    units_one (at + 2 * run) run (prefix_len is_ascii (units rest)) bytes within small zero_high so_far.left in
    record {
      within = omega arith;
      left = ap (λ n. run + 1 + prefix_len is_ascii (units (drop n bytes))) {x = at + 2 * (run + 1)} {y = at + 2 * run + 2} (omega arith) ∙ next;
      written = ap (λ n. take n (set out (to + run) b)) {x = to + (run + 1)} {y = to + run + 1} (omega arith)
          ∙ take_more_set out (to + run) b (omega arith)
          ∙ ap (λ ys. ys ++ b ∷ []) so_far.written
          ∙ append_assoc (take to old) (first_bytes (take (2 * run) rest)) (b ∷ [])
          ∙ ap (λ ys. take to old ++ ys)
          (ap (λ x. first_bytes (take (2 * run) rest) ++ x ∷ []) (sym (get_or-drop at bytes (2 * run) 0)) ∙ sym (first_bytes-next run rest (omega (arith, length-drop at bytes))));
    }

-- a run in two parts
pub widen_joined : (at to few more : ℕ) (bytes old out new : List ℕ)
    → take (to + 2 * few) out ≡ take to old ++ flat_map wide (take few (drop at bytes))
    → take (to + 2 * few + 2 * more) new ≡ take (to + 2 * few) out ++ flat_map wide (take more (drop (at + few) bytes))
    → take (to + 2 * (few + more)) new ≡ take to old ++ flat_map wide (take (few + more) (drop at bytes))
widen_joined at to few more bytes old out new first second =
    let rest = drop at bytes in
    ap (λ n. take n new) {x = to + 2 * (few + more)} {y = to + 2 * few + 2 * more} (omega arith)
    ∙ second
    ∙ ap (λ ys. ys ++ flat_map wide (take more (drop (at + few) bytes))) first
    ∙ append_assoc (take to old) (flat_map wide (take few rest)) (flat_map wide (take more (drop (at + few) bytes)))
    ∙ ap (λ ys. take to old ++ (flat_map wide (take few rest) ++ flat_map wide (take more ys))) (sym (drop-drop few at bytes))
    ∙ ap (λ ys. take to old ++ ys) (sym (wide-take few more rest))

pub narrow_joined : (at to few more : ℕ) (bytes old out new : List ℕ) → at + 2 * few + 2 * more ≤ length bytes
    → take (to + few) out ≡ take to old ++ first_bytes (take (2 * few) (drop at bytes))
    → take (to + few + more) new ≡ take (to + few) out ++ first_bytes (take (2 * more) (drop (at + 2 * few) bytes))
    → take (to + (few + more)) new ≡ take to old ++ first_bytes (take (2 * (few + more)) (drop at bytes))
narrow_joined at to few more bytes old out new within first second =
    let rest = drop at bytes in
    ap (λ n. take n new) {x = to + (few + more)} {y = to + few + more} (omega arith)
    ∙ second
    ∙ ap (λ ys. ys ++ first_bytes (take (2 * more) (drop (at + 2 * few) bytes))) first
    ∙ append_assoc (take to old) (first_bytes (take (2 * few) rest)) (first_bytes (take (2 * more) (drop (at + 2 * few) bytes)))
    ∙ ap (λ ys. take to old ++ (first_bytes (take (2 * few) rest) ++ first_bytes (take (2 * more) ys))) (sym (drop-drop (2 * few) at bytes))
    ∙ ap (λ ys. take to old ++ ys) (sym (first_bytes-take few more rest (omega (arith, length-drop at bytes))))
