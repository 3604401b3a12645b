use Rattle.cm_validate_model.proofs.ImportedLaws.{all_as_imported}
use Rattle.cm_validate_model.proofs.function_laws.functions_are_as_imported.Goals as goal

pub returns : goal.returns
returns c = λ sections. all_as_imported sections (c.functions_come_from_items.ensures sections)
