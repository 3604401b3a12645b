use Rattle.cm_abi_load.proofs.FoundLaws.{shown_found}
use Rattle.cm_abi_load.proofs.laws.what_is_shown_is_read.Goals as goal

pub returns : goal.returns
returns c = λ w t p s v shown room. let found = shown_found w t p s v shown room in (found.after, found.is)
