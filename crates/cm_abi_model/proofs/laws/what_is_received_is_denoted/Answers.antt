use Rattle.cm_abi_model.proofs.StoredShows.{denoted}
use Rattle.cm_abi_model.proofs.laws.what_is_received_is_denoted.Goals as goal

pub returns : goal.returns
returns c = λ w way types slots g v has serves none. record { of_kinds = has.numbers.of_kinds; denoted = denoted w way types slots g v has serves none }
