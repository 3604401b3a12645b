-- Equations.
use Rattle.std.proofs.Common.{◌≡◌}
use Rattle.cm_lemmas.proofs.Results.{err_of, ok_of}

pub err_is : {E : Type 0} (A : Type 0) (f d : E) → err_of A f ≡ err_of A d → f ≡ d
err_is A f d e = cc

pub ok_is : {A : Type 0} (E : Type 0) (x y : A) → ok_of E x ≡ ok_of E y → x ≡ y
ok_is E x y e = cc
