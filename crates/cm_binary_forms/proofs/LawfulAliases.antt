-- Aliases are read exactly.
use Rattle.cm_binary_grammar.proofs.Laws.{Lawful, done_lawful, bind_lawful, code_lawful}
use Rattle.cm_binary_model.specs.declared.instances.InstanceExportSort.{InstanceExportSort}
use Rattle.cm_binary_forms.specs.declared.codes.AliasSort.{AliasSort}
use Rattle.cm_binary_forms.specs.declared.codes.AliasSort.TheVariants as alias_sorts
use Rattle.cm_binary_forms.specs.declared.codes.TypeAliasTarget.{TypeAliasTarget}
use Rattle.cm_binary_forms.specs.declared.codes.TypeAliasTarget.TheVariants as type_targets
use Rattle.cm_binary_forms.specs.Aliases.{outer_type, instance_export, type_alias_of, alias_of, alias}
use Rattle.cm_binary_forms.proofs.LawfulTexts.{index_lawful, text_lawful, plain_name_lawful}

pub outer_type_lawful : Lawful outer_type
unfolding outer_type
outer_type_lawful = bind_lawful _ _ index_lawful (λ count. bind_lawful _ _ index_lawful (λ i. done_lawful _))

pub instance_export_lawful : (sort : InstanceExportSort) → Lawful (instance_export sort)
unfolding instance_export
instance_export_lawful sort = bind_lawful _ _ index_lawful (λ i. bind_lawful _ _ plain_name_lawful (λ name. done_lawful _))

pub type_alias_of_lawful : (t : TypeAliasTarget) → Lawful (type_alias_of t)
unfolding type_alias_of
type_alias_of_lawful type_targets.InstanceExport = instance_export_lawful _
type_alias_of_lawful type_targets.OuterType = bind_lawful _ _ outer_type_lawful (λ outer. done_lawful _)

pub alias_of_lawful : (s : AliasSort) → Lawful (alias_of s)
unfolding alias_of
alias_of_lawful alias_sorts.Core = bind_lawful _ _ (code_lawful _) (λ sort. bind_lawful _ _ (code_lawful _) (λ target. bind_lawful _ _ index_lawful (λ i. bind_lawful _ _ text_lawful (λ name. done_lawful _))))
alias_of_lawful alias_sorts.Func = bind_lawful _ _ (code_lawful _) (λ target. instance_export_lawful _)
alias_of_lawful alias_sorts.Type = bind_lawful _ _ (code_lawful _) type_alias_of_lawful
alias_of_lawful alias_sorts.Instance = code_lawful _

pub alias_lawful : Lawful alias
unfolding alias
alias_lawful = bind_lawful _ _ (code_lawful _) alias_of_lawful
