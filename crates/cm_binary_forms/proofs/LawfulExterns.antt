-- Imports and exports are read exactly.
use Rattle.cm_binary_grammar.proofs.Laws.{Lawful, done_lawful, bind_lawful, code_lawful}
use Rattle.cm_binary_forms.specs.declared.codes.DescForm.{DescForm}
use Rattle.cm_binary_forms.specs.declared.codes.DescForm.TheVariants as desc_forms
use Rattle.cm_binary_forms.specs.Externs.{extern_desc_of, extern_desc, import_item, export_item}
use Rattle.cm_binary_forms.proofs.LawfulTexts.{index_lawful, extern_name_lawful}

pub extern_desc_of_lawful : (f : DescForm) → Lawful (extern_desc_of f)
unfolding extern_desc_of
extern_desc_of_lawful desc_forms.Func = bind_lawful _ _ index_lawful (λ ty. done_lawful _)
extern_desc_of_lawful desc_forms.Instance = bind_lawful _ _ index_lawful (λ ty. done_lawful _)

pub extern_desc_lawful : Lawful extern_desc
unfolding extern_desc
extern_desc_lawful = bind_lawful _ _ (code_lawful _) extern_desc_of_lawful

pub import_lawful : Lawful import_item
unfolding import_item
import_lawful = bind_lawful _ _ extern_name_lawful (λ name. bind_lawful _ _ extern_desc_lawful (λ desc. done_lawful _))

pub export_lawful : Lawful export_item
unfolding export_item
export_lawful = bind_lawful _ _ extern_name_lawful (λ name. bind_lawful _ _ (code_lawful _) (λ sort. bind_lawful _ _ index_lawful (λ func. bind_lawful _ _ (code_lawful _) (λ desc. done_lawful _))))
