use Rattle.cm_abi_store.proofs.KindLaws.{call_fits}
use Rattle.cm_abi_store.proofs.laws.what_is_passed_fits.Goals as goal

pub returns : goal.returns
returns c = λ w way types g v slots typed is serves places numbers fit. call_fits w way types g v slots typed is serves places numbers fit
