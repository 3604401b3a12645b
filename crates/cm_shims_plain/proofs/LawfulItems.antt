-- Instances, imports and exports are read exactly.
use Rattle.cm_binary_grammar.proofs.Laws.{Lawful, done_lawful, bind_lawful, code_lawful, fixed_lawful, vec_lawful}
use Rattle.cm_binary_model.specs.declared.instances.InstanceExportSort.{InstanceExportSort}
use Rattle.cm_binary_model.specs.declared.instances.InstanceExportSort.TheVariants as sorts
use Rattle.cm_binary_forms.specs.declared.codes.OptionalForm.{OptionalForm}
use Rattle.cm_binary_forms.specs.declared.codes.OptionalForm.TheVariants as optional_forms
use Rattle.cm_binary_forms.proofs.LawfulTexts.{index_lawful, plain_name_lawful, extern_name_lawful}
use Rattle.cm_binary_forms.proofs.LawfulInstances.{inline_export_lawful}
use Rattle.cm_binary_forms.proofs.LawfulTypes.{export_desc_lawful}
use Rattle.cm_shims_plain.specs.declared.codes.InstanceForm.{InstanceForm}
use Rattle.cm_shims_plain.specs.declared.codes.InstanceForm.TheVariants as instance_forms
use Rattle.cm_shims_plain.specs.declared.codes.WideDescForm.{WideDescForm}
use Rattle.cm_shims_plain.specs.declared.codes.WideDescForm.TheVariants as desc_forms
use Rattle.cm_shims_plain.specs.Items.{argument, wide_instance_of, wide_instance, wide_desc_of, wide_desc, wide_import, shim_import, ascribed_of, ascribed, shim_export}

argument_lawful : Lawful argument
unfolding argument
argument_lawful = bind_lawful _ _ plain_name_lawful (λ name. bind_lawful _ _ (code_lawful _) (λ sort. bind_lawful _ _ index_lawful (λ i. done_lawful _)))

wide_instance_of_lawful : (f : InstanceForm) → Lawful (wide_instance_of f)
unfolding wide_instance_of
wide_instance_of_lawful instance_forms.Instantiate = bind_lawful _ _ index_lawful (λ component. bind_lawful _ _ (vec_lawful _ _ argument_lawful) (λ args. done_lawful _))
wide_instance_of_lawful instance_forms.Exports = bind_lawful _ _ (vec_lawful _ _ inline_export_lawful) (λ exports. done_lawful _)

pub wide_instance_lawful : Lawful wide_instance
unfolding wide_instance
wide_instance_lawful = bind_lawful _ _ (code_lawful _) wide_instance_of_lawful

wide_desc_of_lawful : (f : WideDescForm) → Lawful (wide_desc_of f)
unfolding wide_desc_of
wide_desc_of_lawful desc_forms.Func = bind_lawful _ _ index_lawful (λ ty. done_lawful _)
wide_desc_of_lawful desc_forms.Type = bind_lawful _ _ (code_lawful _) (λ equality. bind_lawful _ _ index_lawful (λ ty. done_lawful _))
wide_desc_of_lawful desc_forms.Instance = bind_lawful _ _ index_lawful (λ ty. done_lawful _)

wide_desc_lawful : Lawful wide_desc
unfolding wide_desc
wide_desc_lawful = bind_lawful _ _ (code_lawful _) wide_desc_of_lawful

pub wide_import_lawful : Lawful wide_import
unfolding wide_import
wide_import_lawful = bind_lawful _ _ extern_name_lawful (λ name. bind_lawful _ _ wide_desc_lawful (λ desc. done_lawful _))

pub shim_import_lawful : Lawful shim_import
unfolding shim_import
shim_import_lawful = bind_lawful _ _ extern_name_lawful (λ name. bind_lawful _ _ export_desc_lawful (λ desc. done_lawful _))

ascribed_of_lawful : (f : OptionalForm) → Lawful (ascribed_of f)
unfolding ascribed_of
ascribed_of_lawful optional_forms.Absent = done_lawful _
ascribed_of_lawful optional_forms.Present = bind_lawful _ _ (fixed_lawful _ _) (λ sort. bind_lawful _ _ index_lawful (λ ty. done_lawful _))

ascribed_lawful : (s : InstanceExportSort) → Lawful (ascribed s)
unfolding ascribed
ascribed_lawful sorts.Func = bind_lawful _ _ (code_lawful _) ascribed_of_lawful
ascribed_lawful sorts.Type = bind_lawful _ _ (code_lawful _) (λ nothing. done_lawful _)

pub shim_export_lawful : Lawful shim_export
unfolding shim_export
shim_export_lawful = bind_lawful _ _ extern_name_lawful (λ name. bind_lawful _ _ (code_lawful _) (λ sort. bind_lawful _ _ index_lawful (λ i. bind_lawful _ _ (ascribed_lawful sort) (λ ty. done_lawful _))))
