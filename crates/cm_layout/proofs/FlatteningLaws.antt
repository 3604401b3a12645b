-- Laws of what Flattening defines, for this crate and those above it.
use Rattle.std.proofs.Common.{List, length, ◌≤◌, [], arith, ◌∷◌}
use Rattle.cm_layout.specs.Flattening.{join_slots}
use Rattle.cm_types.specs.declared.core_value.CoreKind.{CoreKind}

pub join_long : (xs ys : List CoreKind) → length ys ≤ length (join_slots xs ys)
join_long [] ys = omega arith
join_long (x ∷ xs) [] = omega arith
join_long (x ∷ xs) (y ∷ ys) = omega (arith, join_long xs ys)
