use Rattle.cm_validate_model.proofs.ItemLaws.{come_from_items}
use Rattle.cm_validate_model.proofs.function_laws.functions_come_from_items.Goals as goal

pub returns : goal.returns
returns c = come_from_items
