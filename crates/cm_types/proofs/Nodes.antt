-- Counting nodes of what has cases.
use Rattle.std.proofs.Common.{◌≡◌, ℕ, ◌+◌, ◌*◌, ◌<◌, ◌≤◌, ◌-◌, max, ap, List, [], ◌∷◌, Option, Some, None, refl, arith}
use Rattle.std.proofs.Math.Nat.{mul-le-mul_right}
use Rattle.cm_types.specs.Types.{Ty, Cases, fixed_list, cases, result_type, no_cases}
use Rattle.cm_types.specs.TypeTrees.{plain_from, case_before}
use Rattle.cm_types.specs.Limits.{depth_of, depth_of_cases, nodes_of, nodes_of_cases, payload_nodes, payload_depth, IsWithin, IsPayloadWithin}

pub plain_nodes : (ls : List (List ℕ)) → nodes_of_cases (plain_from ls) ≡ 0
plain_nodes [] = refl
plain_nodes (l ∷ ls) = plain_nodes ls

pub before_nodes : (l : List ℕ) (o : Option Ty) (cs : Cases) → nodes_of_cases (case_before l o cs) ≡ payload_nodes o + nodes_of_cases cs
before_nodes l None cs = omega arith
before_nodes l (Some t) cs = refl

pub plain_depth : (ls : List (List ℕ)) → depth_of_cases (plain_from ls) ≡ 0
plain_depth [] = refl
plain_depth (l ∷ ls) = plain_depth ls

pub before_depth : (l : List ℕ) (o : Option Ty) (cs : Cases) → depth_of_cases (case_before l o cs) ≡ max (payload_depth o) (depth_of_cases cs)
before_depth l None cs = omega arith
before_depth l (Some t) cs = refl

pub result_within : (first second most depth : ℕ) (k l : List ℕ) (ok error : Option Ty) → 0 < most → 0 < depth
    → IsPayloadWithin (most - 1) (depth - 1) ok × (first ≡ payload_nodes ok) → IsPayloadWithin (most - 1 - first) (depth - 1) error × (second ≡ payload_nodes error)
    → IsWithin most depth (cases result_type (case_before k ok (case_before l error no_cases))) × (1 + first + second ≡ nodes_of (cases result_type (case_before k ok (case_before l error no_cases))))
result_within first second most depth k l ok error some deep (a, e) (b, f) =
    rw (before_nodes k ok (case_before l error no_cases), before_nodes l error no_cases, before_depth k ok (case_before l error no_cases), before_depth l error no_cases)
    ((omega arith, omega arith), omega arith)

-- ---- what holds one thing is within the limits where this is within less, by one each

pub one_above : (most depth n d below : ℕ) (u : Ty) → 0 < most → 0 < depth → nodes_of u ≡ 1 + n → depth_of u ≡ 1 + d → ((n ≤ most - 1) × (d ≤ depth - 1)) × (below ≡ n) → IsWithin most depth u × (1 + below ≡ nodes_of u)
one_above most depth n d below u some deep e f ((a, b), g) = ((omega arith, omega arith), omega arith)

pub one_over : (most depth n d : ℕ) (u : Ty) → nodes_of u ≡ 1 + n → depth_of u ≡ 1 + d → ((n ≤ most - 1) × (d ≤ depth - 1) → ⊥) → IsWithin most depth u → ⊥
one_over most depth n d u e f h (a, b) = h (omega arith, omega arith)

pub fixed_above : (most depth n below all : ℕ) (u e : Ty) → 0 < most → 0 < depth → u ≡ fixed_list e n → IsWithin (most - 1) (depth - 1) e × (below ≡ nodes_of e)
    → (max n 1 * below ≤ most - 1) × (all ≡ max n 1 * below) → IsWithin most depth u × (1 + all ≡ nodes_of u)
fixed_above most depth n below all u e some deep is ((a, b), g) (x, y) =
    let nodes : nodes_of u ≡ 1 + max n 1 * nodes_of e = ap nodes_of is in
    let levels : depth_of u ≡ 1 + depth_of e = ap depth_of is in
    let same : max n 1 * below ≡ max n 1 * nodes_of e = ap (λ (k : ℕ). max n 1 * k) g in
    ((omega arith, omega arith), omega arith)

pub fixed_over : (most depth n : ℕ) (u e : Ty) → u ≡ fixed_list e n → (IsWithin (most - 1) (depth - 1) e → ⊥) → IsWithin most depth u → ⊥
fixed_over most depth n u e is h (a, b) =
    let nodes : nodes_of u ≡ 1 + max n 1 * nodes_of e = ap nodes_of is in
    let levels : depth_of u ≡ 1 + depth_of e = ap depth_of is in
    let once : 1 ≤ max n 1 = omega arith in
    let fewer : 1 * nodes_of e ≤ max n 1 * nodes_of e = mul-le-mul_right (nodes_of e) once in
    h (omega arith, omega arith)

pub times_over : (most depth n below : ℕ) (u e : Ty) → u ≡ fixed_list e n → below ≡ nodes_of e → (max n 1 * below ≤ most - 1 → ⊥) → IsWithin most depth u → ⊥
times_over most depth n below u e is g h (a, b) =
    let nodes : nodes_of u ≡ 1 + max n 1 * nodes_of e = ap nodes_of is in
    let same : max n 1 * below ≡ max n 1 * nodes_of e = ap (λ (k : ℕ). max n 1 * k) g in
    h (omega arith)

module _ (most depth : ℕ) (u : Ty) (k l : List ℕ) (p q : Option Ty) (is : u ≡ cases result_type (case_before k p (case_before l q no_cases))) where
  result_nodes : nodes_of u ≡ 1 + (payload_nodes p + (payload_nodes q + 0))
  result_nodes = rw (is, before_nodes k p (case_before l q no_cases), before_nodes l q no_cases) refl

  result_depth : depth_of u ≡ 1 + max (payload_depth p) (max (payload_depth q) 0)
  result_depth = rw (is, before_depth k p (case_before l q no_cases), before_depth l q no_cases) refl

  pub first_over : (IsPayloadWithin (most - 1) (depth - 1) p → ⊥) → IsWithin most depth u → ⊥
  first_over h (a, b) = h (omega (arith, result_nodes, a), omega (arith, result_depth, b))

  pub second_over : (first : ℕ) → first ≡ payload_nodes p → (IsPayloadWithin (most - 1 - first) (depth - 1) q → ⊥) → IsWithin most depth u → ⊥
  second_over first e h (a, b) = h (omega (arith, result_nodes, a, e), omega (arith, result_depth, b))

-- ---- what is counted so far, beside what is left: of the latter, one thing and the rest

module _ (most depth count more nt dt ns ds left deep all levels : ℕ) (e : left ≡ nt + ns) (f : deep ≡ max dt ds) (some : count ≤ most) (sum : count + left ≡ all) (above : deep ≤ depth → levels ≤ depth) (below : deep ≤ levels) where
  pub count_fits : ((nt ≤ most - count) × (dt ≤ depth)) × (more ≡ nt) → count + more ≤ most
  count_fits ((a, b), g) = omega arith

  pub count_adds : more ≡ nt → (count + more) + ns ≡ all
  count_adds g = omega arith

  pub rest_decides : dt ≤ depth → ds ≤ depth → levels ≤ depth
  rest_decides a b = above (omega arith)

  pub rest_below : ds ≤ levels
  rest_below = omega arith

  pub more_over : ((nt ≤ most - count) × (dt ≤ depth) → ⊥) → (all ≤ most) × (levels ≤ depth) → ⊥
  more_over h (a, b) = h (omega arith, omega arith)

pub all_counted : (most depth count left deep all levels : ℕ) → left ≡ 0 → deep ≡ 0 → count ≤ most → count + left ≡ all → (deep ≤ depth → levels ≤ depth) → ((all ≤ most) × (levels ≤ depth)) × (count ≡ all)
all_counted most depth count left deep all levels e f some sum above = ((omega arith, above (omega arith)), omega arith)

pub ruleset within = (plain_nodes, before_nodes, plain_depth, before_depth)
