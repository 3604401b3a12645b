use Rattle.cm_validate_model.specs.Items.{all_items}
use Rattle.cm_validate_model.proofs.NamedLaws.{all_resources_whole}
use Rattle.cm_validate_model.proofs.function_laws.destructors_are_guests.Goals as goal

pub returns : goal.returns
returns c = λ sections valid. all_resources_whole (all_items sections) valid
