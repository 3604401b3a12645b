-- Laws of what Fault defines, for this crate and those above it.
use Rattle.std.proofs.Common.{List, ℕ, Option, drop, None, [], Some, ◌∷◌}
use Rattle.std.specs.List.{flat_map}
use Rattle.cm_validate_model.specs.Reasons.{least}
use Rattle.cm_validate_model.specs.declared.fault.ValidReason.{ValidReason}

-- the reasons that the elements from an index on break
abbrev pub rest_fault : {A : Type 0} → (A → List ValidReason) → List A → ℕ → Option ValidReason
rest_fault f xs i = least (flat_map f (drop i xs))

abbrev pub listed : Option ValidReason → List ValidReason
listed None = []
listed (Some r) = r ∷ []
