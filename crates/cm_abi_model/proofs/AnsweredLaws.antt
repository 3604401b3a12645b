-- Laws of what Answered defines, for this crate and those above it.
use Rattle.std.proofs.Common.{List, ℕ, ◌++◌, ◌∷◌, [], ◌≡◌, refl}
use Rattle.cm_abi_model.specs.Answered.{last_answer}

pub last_push : (answers : List ℕ) (a : ℕ) → last_answer (answers ++ a ∷ []) ≡ a
last_push [] a = refl
last_push (b ∷ []) a = refl
last_push (b ∷ c ∷ answers) a = last_push (c ∷ answers) a
