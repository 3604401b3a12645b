use Rattle.cm_abi_load.proofs.ReadLaws.{read_shows}
use Rattle.cm_abi_load.proofs.laws.what_is_read_is_shown.Goals as goal

pub returns-clause-shown : goal.returns-clause-shown
returns-clause-shown c = λ w t p s after v e. (read_shows w t p s after v e).0

pub returns-clause-met : goal.returns-clause-met
returns-clause-met c = λ w t p s after v e. (read_shows w t p s after v e).1
