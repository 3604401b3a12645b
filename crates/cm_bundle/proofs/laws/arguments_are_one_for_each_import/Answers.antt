use Rattle.cm_bundle.proofs.ServedLaws.{arguments_named}
use Rattle.cm_bundle.proofs.laws.arguments_are_one_for_each_import.Goals as goal

pub returns : goal.returns
returns c = arguments_named
