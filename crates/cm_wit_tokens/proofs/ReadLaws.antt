-- Laws of what Read defines, for this crate and those above it.
use Rattle.std.proofs.Common.{◌≡◌}
use Rattle.cm_wit_tokens.proofs.FaultsLaws.{ok_of}

pub ok_is : {A : Type 0} (x y : A) → ok_of x ≡ ok_of y → x ≡ y
ok_is x y e = cc
