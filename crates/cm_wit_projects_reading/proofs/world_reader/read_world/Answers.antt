use Rattle.cm_wit_projects_reading.proofs.WorldLaws.{gated_world_shortens}
use Rattle.cm_wit_projects_reading.proofs.world_reader.read_world.Goals as goal

pub read_members-requires-clause-shortens : goal.read_members-requires-clause-shortens
read_members-requires-clause-shortens c = gated_world_shortens
