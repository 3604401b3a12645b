-- A byte that stands for one of two things.
use Rattle.std.proofs.Common.{◌≡◌, ℕ, cond, Ok, Err, inl, inr, ◌⊎◌}
use Rattle.std.specs.Prelude.{◌==◌}
use Rattle.std.proofs.lemmas.Bool.{cases_Bool}
use Rattle.cm_lemmas.proofs.Equations.{ok_is}
use Rattle.cm_lemmas.proofs.Numbers.{eq_of}
use Rattle.cm_lemmas.proofs.Results.{ok_of}

pub either_code : {K R : Type 0} (b first second : ℕ) (x y k : K) (reason : R) → cond (b == first) (ok_of R x) (cond (b == second) (Ok y) (Err reason)) ≡ Ok k → ((b ≡ first) × (x ≡ k)) ⊎ ((b ≡ second) × (y ≡ k))
either_code {K} {R} b first second x y k reason h =
    elim (cases_Bool (b == first)) [
      | inl t ↦ inl (eq_of b first t, ok_is R x k (rw t at h))
      | inr f ↦
          elim (cases_Bool (b == second)) [
            | inl u ↦ inr (eq_of b second u, ok_is R y k (rw (f, u) at h))
            | inr g ↦ let q = rw (f, g) at h in absurd cc
          ]
    ]
