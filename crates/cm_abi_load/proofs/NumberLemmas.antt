-- Numbers in memory, as `byteorder` reads them.
use Rattle.std.proofs.Common.{◌≡◌, ℕ, zero, suc, ◌+◌, ◌-◌, List, length, take, drop, refl, sym, ap, ◌∙◌, arith}
use Rattle.std.proofs.Math.Seq.{take-length}
use Rattle.std.proofs.lemmas.List.{get_or-drop, length-drop}
use Rattle.byteorder.specs.Endian.{little_from}
use Rattle.cm_abi_model.specs.Numbers.{number_at}

little_at : (n at i : ℕ) (m : List ℕ) → little_from i n (drop at m) ≡ number_at n m (at + i)
unfolding number_at
little_at zero at i m = refl
little_at (suc n) at i m =
    let next : at + suc i ≡ at + i + 1 = omega arith in
    let rest : little_from (suc i) n (drop at m) ≡ number_at n m (at + i + 1) = rw (sym next) (little_at n at (suc i) m) in
    rw (get_or-drop at m i 0, rest) refl

-- the number in the first bytes of what is behind an address
pub little_is : (n at : ℕ) (m : List ℕ) → little_from 0 n (take (length m - at) (drop at m)) ≡ number_at n m at
little_is n at m =
    let none : at + 0 ≡ at = omega arith in
    let all : take (length m - at) (drop at m) ≡ drop at m = ap (λ k. take k (drop at m)) (sym (length-drop at m)) ∙ take-length (drop at m) in
    rw all (rw none at (little_at n at 0 m))
