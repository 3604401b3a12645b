use Rattle.cm_abi_model.proofs.InTurn.{in_turn}
use Rattle.cm_abi_model.proofs.TakenLaws.{handed}
use Rattle.cm_abi_model.proofs.laws.what_is_handed_over_is_counted.Goals as goal

pub returns : goal.returns
returns c = λ t most ms there can s.
    handed (record { release = c.tables_change_in_one_place.ensures.release; lend = c.tables_change_in_one_place.ensures.lend }) t most ms s ((in_turn t most ms there).0 can)
