use Rattle.cm_wit_conforms.proofs.PairLaws.{one_of_the_world, one_of_the_signature}
use Rattle.cm_wit_conforms.proofs.laws.resources_correspond_one_to_one.Goals as goal

pub returns-clause-one_of_the_world : goal.returns-clause-one_of_the_world
returns-clause-one_of_the_world c = one_of_the_world

pub returns-clause-one_of_the_signature : goal.returns-clause-one_of_the_signature
returns-clause-one_of_the_signature c = one_of_the_signature
