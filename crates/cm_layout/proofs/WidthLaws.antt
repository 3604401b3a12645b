-- How many core values pass a type.
use Rattle.std.proofs.Common.{◌≡◌, ℕ, zero, suc, ◌+◌, ◌*◌, ◌≤◌, max, List, [], ◌∷◌, length, refl, ◌∙◌, arith, length-append}
use Rattle.std.proofs.Math.Nat.{mul-le-mul_left}
use Rattle.cm_types.specs.declared.core_value.CoreKind.{CoreKind}
use Rattle.cm_types.specs.Types.{Ty, Fields, Cases, bool, signed, unsigned, char, string, list, fixed_list, fields, cases, flags, own, borrow, no_fields, field, no_cases, plain, carrying}
use Rattle.cm_types.specs.TypeTrees.{plain_from}
use Rattle.cm_types.specs.Limits.{nodes_of, nodes_of_fields, nodes_of_cases}
use Rattle.cm_layout.specs.Flattening.{copies, join_slots, flat_of, flat_of_fields, flat_of_cases}

pub copies_long : (n : ℕ) (xs : List CoreKind) → length (copies n xs) ≡ n * length xs
copies_long zero xs = omega arith
copies_long (suc n) xs = length-append xs (copies n xs) ∙ omega (arith, copies_long n xs)

pub join_long : (xs ys : List CoreKind) → length (join_slots xs ys) ≡ max (length xs) (length ys)
join_long [] ys = omega arith
join_long (x ∷ xs) [] = omega arith
join_long (x ∷ xs) (y ∷ ys) = omega (arith, join_long xs ys)

pub repeated_narrow : (n w x : ℕ) → w ≤ 2 * x → n * w ≤ 2 * (1 + max n 1 * x)
repeated_narrow zero w x h = omega arith
repeated_narrow (suc m) w x h =
    let k : suc m * w ≤ suc m * (2 * x) = mul-le-mul_left (suc m) h in
    let e : max (suc m) 1 ≡ suc m = omega arith in
    rw e (omega arith)

mutual
  -- a node adds at most two core values
  pub narrow : (t : Ty) → length (flat_of t) ≤ 2 * nodes_of t
  narrow bool = omega arith
  narrow (signed w) = omega arith
  narrow (unsigned w) = omega arith
  narrow char = omega arith
  narrow string = omega arith
  narrow (list t) = omega arith
  narrow (fixed_list t n) = rw (copies_long n (flat_of t)) (repeated_narrow n (length (flat_of t)) (nodes_of t) (narrow t))
  narrow (fields k fs) = omega (arith, fields_narrow fs)
  narrow (cases k cs) = omega (arith, cases_narrow cs)
  narrow (flags ls) = omega arith
  narrow (own r) = omega arith
  narrow (borrow r) = omega arith

  pub fields_narrow : (fs : Fields) → length (flat_of_fields fs) ≤ 2 * nodes_of_fields fs
  fields_narrow no_fields = omega arith
  fields_narrow (field l t fs) = rw (length-append (flat_of t) (flat_of_fields fs)) (omega (arith, narrow t, fields_narrow fs))

  pub cases_narrow : (cs : Cases) → length (flat_of_cases cs) ≤ 2 * nodes_of_cases cs
  cases_narrow no_cases = omega arith
  cases_narrow (plain l cs) = cases_narrow cs
  cases_narrow (carrying l t cs) = rw (join_long (flat_of t) (flat_of_cases cs)) (omega (arith, narrow t, cases_narrow cs))

pub flat_plain : (ls : List (List ℕ)) → flat_of_cases (plain_from ls) ≡ []
flat_plain [] = refl
flat_plain (l ∷ ls) = flat_plain ls
