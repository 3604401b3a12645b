-- Files that may have shims are read exactly.
use Rattle.cm_binary_grammar.proofs.Laws.{fixed_lawful}
use Rattle.cm_binary_grammar.proofs.WholeLaws.{LawfulWhole, join_lawful}
use Rattle.cm_binary_grammar.proofs.EndLaws.{at_most_lawful}
use Rattle.cm_binary_model.specs.declared.limits.TheConstants.{MAX_TYPES}
use Rattle.cm_shims_plain.specs.File.{wide_component, wide_file}
use Rattle.cm_shims_plain.proofs.LawfulSections.{wide_sections_lawful}

pub wide_component_lawful : LawfulWhole wide_component
unfolding wide_component
wide_component_lawful = join_lawful _ _ (fixed_lawful _ _) (λ preamble. wide_sections_lawful MAX_TYPES)

pub wide_file_lawful : LawfulWhole wide_file
unfolding wide_file
wide_file_lawful = at_most_lawful _ _ _ wide_component_lawful
