use Rattle.cm_wit_projects_reading.proofs.InterfaceLaws.{gated_interface_shortens}
use Rattle.cm_wit_projects_reading.proofs.interface_reader.read_interface_items.Goals as goal

pub read_members-requires-clause-shortens : goal.read_members-requires-clause-shortens
read_members-requires-clause-shortens c = gated_interface_shortens
