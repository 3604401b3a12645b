-- What is known of a table, of which some proof is there.
use Rattle.std.proofs.Common.{◌≡◌}
use Rattle.std.proofs.Math.Logic.{∥∥₁_elim}
use Rattle.std.proofs.Props.{props}
use Rattle.cm_match_model.specs.declared.candidates.Candidate.{Candidate}

candidate_set : IsSet Candidate
candidate_set = Prim.hlevel props

pub held : {P : Type 0} → (x y : Candidate) → ∥ P ∥₁ → (P → x ≡ y) → x ≡ y
held x y p f = ∥∥₁_elim p (candidate_set x y) f
