-- The numbers of the reasons why a signature does not fit a world.
use Rattle.std.specs.Prelude.{ℕ}
use Rattle.cm_wit_conforms.specs.declared.fault.ConformReason.{ConformReason}
use Rattle.cm_wit_conforms.specs.declared.fault.ConformReason.TheVariants as reason

abbrev pub conform_reason_number : ConformReason → ℕ
conform_reason_number reason.Missing = 1
conform_reason_number reason.NotInWorld = 2
conform_reason_number reason.DifferentType = 3
conform_reason_number reason.Memory = 4
