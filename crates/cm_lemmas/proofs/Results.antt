-- Results: what a success or an error holds.
use Rattle.std.proofs.Common.{Result, Err, Ok}
use Rattle.std.specs.Prelude.{IfOk}

abbrev pub err_of : {E : Type 0} (A : Type 0) → E → Result A E
err_of A f = Err f

abbrev pub ok_of : {A : Type 0} (E : Type 0) → A → Result A E
ok_of E x = Ok x

-- what holds of an answer
pub if_ok_more : {T E : Type 0} (r : Result T E) (P Q : T → Type 0) → IfOk r P → ((v : T) → P v → Q v) → IfOk r Q
if_ok_more (Ok v) P Q h f = f v h
if_ok_more (Err e) P Q h f = tt
