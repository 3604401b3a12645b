-- Files are read exactly.
use Rattle.cm_binary_grammar.proofs.Laws.{fixed_lawful}
use Rattle.cm_binary_grammar.proofs.WholeLaws.{LawfulWhole, join_lawful}
use Rattle.cm_binary_grammar.proofs.EndLaws.{at_most_lawful}
use Rattle.cm_binary_model.specs.declared.limits.TheConstants.{MAX_TYPES}
use Rattle.cm_binary_forms.specs.File.{component, file}
use Rattle.cm_binary_forms.proofs.LawfulSections.{sections_lawful}

pub component_lawful : LawfulWhole component
unfolding component
component_lawful = join_lawful _ _ (fixed_lawful _ _) (λ preamble. sections_lawful MAX_TYPES)

pub file_lawful : LawfulWhole file
unfolding file
file_lawful = at_most_lawful _ _ _ component_lawful
