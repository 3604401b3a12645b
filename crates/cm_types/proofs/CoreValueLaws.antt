-- Laws of what CoreValue defines, for this crate and those above it.
use Rattle.std.proofs.Common.{ℕ, List, drop, ◌≡◌, ◌+◌, zero, arith, ap, suc, [], ◌∙◌, sym, ◌∷◌}
use Rattle.std.proofs.Math.Seq.{drop-nil}
use Rattle.cm_types.specs.declared.core_value.CoreValue.{CoreValue}

pub drop_twice : (w k : ℕ) (s : List CoreValue) → drop w (drop k s) ≡ drop (k + w) s
drop_twice w zero s = let same : w ≡ 0 + w = omega arith in ap (λ n. drop n s) same
drop_twice w (suc k) [] = drop-nil w ∙ sym (drop-nil (suc k + w))
drop_twice w (suc k) (x ∷ s) =
    let same : suc (k + w) ≡ suc k + w = omega arith in
    drop_twice w k s ∙ ap (λ n. drop n (x ∷ s)) same
