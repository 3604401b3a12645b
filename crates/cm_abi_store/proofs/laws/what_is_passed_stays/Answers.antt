use Rattle.cm_abi_store.proofs.RisingLaws.{numbers_stay}
use Rattle.cm_abi_store.proofs.laws.what_is_passed_stays.Goals as goal

pub returns : goal.returns
returns c = λ way types g v slots typed room. numbers_stay way types g v slots typed room
