use Rattle.cm_wit_tables.proofs.ScopeResourceLaws.{resources}
use Rattle.cm_wit_tables.proofs.declared_laws.resources_stand_for_resources.Goals as goal

pub returns : goal.returns
returns c = λ ds rank table k ranked solves. resources ds table solves rank ranked k
