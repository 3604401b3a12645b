use Rattle.cm_wit_signature.proofs.MeaningLaws.{def_spelled, func_spelled, meaning_spelled, resource_func_spelled}
use Rattle.cm_wit_signature.proofs.spellable_laws.what_it_stands_for.Goals as goal

pub returns-clause-types : goal.returns-clause-types
returns-clause-types c = meaning_spelled

pub returns-clause-definitions : goal.returns-clause-definitions
returns-clause-definitions c = def_spelled

pub returns-clause-functions : goal.returns-clause-functions
returns-clause-functions c = func_spelled

pub returns-clause-resource_functions : goal.returns-clause-resource_functions
returns-clause-resource_functions c = resource_func_spelled
