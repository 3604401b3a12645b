use Rattle.cm_bundle.specs.Names.{name_sections}
use Rattle.cm_bundle.proofs.ServedLaws.{files_kept}
use Rattle.cm_bundle.proofs.laws.files_are_kept.Goals as goal

pub returns : goal.returns
returns c = λ set front files exporter names. files_kept set front files exporter (name_sections names)
