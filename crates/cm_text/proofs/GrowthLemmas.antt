-- A text takes at most the greatest growth for each of its units.
use Rattle.std.proofs.Common.{◌≡◌, ℕ, ◌*◌, ◌≤◌, List, [], ◌∷◌, length, ap, arith, length-append}
use Rattle.std.proofs.Math.Nat.{mul-le-mul_left}
use Rattle.std.specs.Char.Escape.{encode_utf16}
use Rattle.std.specs.List.{AllByRecursion, flat_map}

module _ (has : ℕ → Type 0) (spell spell_to : ℕ → List ℕ) (unit growth : ℕ)
    (whole : (c : ℕ) → has c → (n : ℕ) × (length (spell c) ≡ unit * n) × (length (encode_utf16 c) ≤ n))
    (grows : (c : ℕ) → has c → length (spell_to c) ≤ growth * length (encode_utf16 c)) where
  one : (c : ℕ) → has c → unit * length (spell_to c) ≤ growth * length (spell c)
  one c is =
      let w = whole c is in
      let n = w.0 in
      omega
      (arith, mul-le-mul_left unit (grows c is), mul-le-mul_left growth (mul-le-mul_left unit w.2), ap (λ x. growth * x) w.1)

  pub growth_of : (cs : List ℕ) → AllByRecursion has cs → unit * length (flat_map spell_to cs) ≤ growth * length (flat_map spell cs)
  growth_of [] all = omega arith
  growth_of (c ∷ cs) all =
      omega (
        arith,
        one c all.0,
        growth_of cs all.1,
        ap (λ n. unit * n) (length-append (spell_to c) (flat_map spell_to cs)),
        ap (λ n. growth * n) (length-append (spell c) (flat_map spell cs)),
      )
