-- Core instances and instances are read exactly.
use Rattle.cm_binary_grammar.proofs.Laws.{Lawful, done_lawful, bind_lawful, code_lawful, fixed_lawful, vec_lawful}
use Rattle.cm_binary_forms.specs.declared.codes.CoreInstanceForm.{CoreInstanceForm}
use Rattle.cm_binary_forms.specs.declared.codes.CoreInstanceForm.TheVariants as forms
use Rattle.cm_binary_forms.specs.Instances.{core_arg, core_export, core_instance_of, core_instance, inline_export, instance_item}
use Rattle.cm_binary_forms.proofs.LawfulTexts.{index_lawful, text_lawful, extern_name_lawful}

pub core_arg_lawful : Lawful core_arg
unfolding core_arg
core_arg_lawful = bind_lawful _ _ text_lawful (λ name. bind_lawful _ _ (fixed_lawful _ _) (λ sort. bind_lawful _ _ index_lawful (λ i. done_lawful _)))

pub core_export_lawful : Lawful core_export
unfolding core_export
core_export_lawful = bind_lawful _ _ text_lawful (λ name. bind_lawful _ _ (code_lawful _) (λ sort. bind_lawful _ _ index_lawful (λ i. done_lawful _)))

pub core_instance_of_lawful : (f : CoreInstanceForm) → Lawful (core_instance_of f)
unfolding core_instance_of
core_instance_of_lawful forms.Instantiate = bind_lawful _ _ index_lawful (λ m. bind_lawful _ _ (vec_lawful _ _ core_arg_lawful) (λ args. done_lawful _))
core_instance_of_lawful forms.Exports = bind_lawful _ _ (vec_lawful _ _ core_export_lawful) (λ exports. done_lawful _)

pub core_instance_lawful : Lawful core_instance
unfolding core_instance
core_instance_lawful = bind_lawful _ _ (code_lawful _) core_instance_of_lawful

pub inline_export_lawful : Lawful inline_export
unfolding inline_export
inline_export_lawful = bind_lawful _ _ extern_name_lawful (λ name. bind_lawful _ _ (code_lawful _) (λ sort. bind_lawful _ _ index_lawful (λ i. done_lawful _)))

pub instance_lawful : Lawful instance_item
unfolding instance_item
instance_lawful = bind_lawful _ _ (code_lawful _) (λ form. vec_lawful _ _ inline_export_lawful)
