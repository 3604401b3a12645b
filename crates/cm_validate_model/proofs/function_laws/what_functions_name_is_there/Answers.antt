use Rattle.cm_validate_model.proofs.NamedLaws.{all_whole}
use Rattle.cm_validate_model.proofs.function_laws.what_functions_name_is_there.Goals as goal

pub returns : goal.returns
returns c = λ sections valid. all_whole sections valid (c.functions_come_from_items.ensures sections)
