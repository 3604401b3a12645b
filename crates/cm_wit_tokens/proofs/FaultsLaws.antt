-- Laws of what Faults defines, for this crate and those above it.
use Rattle.std.proofs.Common.{Result, Ok}
use Rattle.cm_wit_tokens.specs.Faults.{Fault}

abbrev pub ok_of : {A : Type 0} → A → Result A Fault
ok_of x = Ok x
