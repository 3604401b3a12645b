use Rattle.cm_wit_projects_reading.proofs.InterfaceLaws.{gated_resource_shortens}
use Rattle.cm_wit_projects_reading.proofs.interface_reader.read_resource.Goals as goal

pub read_members-requires-clause-shortens : goal.read_members-requires-clause-shortens
read_members-requires-clause-shortens c = gated_resource_shortens
