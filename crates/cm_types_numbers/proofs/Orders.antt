-- The order of nodes tells them apart.
use Rattle.std.proofs.Common.{◌≡◌, rules}
use Rattle.std.specs.declared.cmp.Ordering.TheVariants.{Equal}
use Rattle.cm_types_numbers.specs.declared.key.Key.{Key}
use Rattle.cm_types_numbers.specs.Tables.{key_order}

pub exact_key : (j k : Key) → key_order j k ≡ Equal → j ≡ k
exact_key j k e = search rules
