-- Laws of what Shared defines, for this crate and those above it.
use Rattle.std.proofs.Common.{Bool, ℕ, List, length, ◌≡◌, ◌≤◌, ◌∷◌, [], true, arith, false}
use Rattle.std.proofs.lemmas.Bool.{ltb-false}
use Rattle.std.specs.Prelude.{nat_lt, if◌then◌else◌}
use Rattle.cm_types.specs.declared.core_value.CoreKind.{CoreKind}
use Rattle.cm_types.specs.declared.core_value.CoreKind.TheVariants as kind
use Rattle.cm_types.specs.declared.limits.TheConstants.{MAX_FLAT_PARAMS}

pub few_by : (b : Bool) (limit : ℕ) (flat : List CoreKind) → nat_lt limit (length flat) ≡ b → limit ≤ MAX_FLAT_PARAMS → length (if b then kind.I32 ∷ [] else flat) ≤ MAX_FLAT_PARAMS
few_by true limit flat is most = omega arith
few_by false limit flat is most = omega (arith, ltb-false limit (length flat) is, most)
