-- Canonical definitions are read exactly.
use Rattle.cm_binary_grammar.proofs.Laws.{Lawful, done_lawful, bind_lawful, code_lawful, fixed_lawful, vec_lawful}
use Rattle.cm_binary_forms.specs.declared.codes.CanonForm.{CanonForm}
use Rattle.cm_binary_forms.specs.declared.codes.CanonForm.TheVariants as canon_forms
use Rattle.cm_binary_forms.specs.declared.codes.OptionForm.{OptionForm}
use Rattle.cm_binary_forms.specs.declared.codes.OptionForm.TheVariants as option_forms
use Rattle.cm_binary_forms.specs.Canons.{canon_option_of, canon_option, canon_of, canon}
use Rattle.cm_binary_forms.proofs.LawfulTexts.{index_lawful}

pub canon_option_of_lawful : (f : OptionForm) → Lawful (canon_option_of f)
unfolding canon_option_of
canon_option_of_lawful option_forms.Utf8 = done_lawful _
canon_option_of_lawful option_forms.Utf16 = done_lawful _
canon_option_of_lawful option_forms.Latin1Utf16 = done_lawful _
canon_option_of_lawful option_forms.Memory = bind_lawful _ _ index_lawful (λ i. done_lawful _)
canon_option_of_lawful option_forms.Realloc = bind_lawful _ _ index_lawful (λ i. done_lawful _)
canon_option_of_lawful option_forms.PostReturn = bind_lawful _ _ index_lawful (λ i. done_lawful _)

pub canon_option_lawful : Lawful canon_option
unfolding canon_option
canon_option_lawful = bind_lawful _ _ (code_lawful _) canon_option_of_lawful

pub canon_of_lawful : (f : CanonForm) → Lawful (canon_of f)
unfolding canon_of
canon_of_lawful canon_forms.Lift = bind_lawful _ _ (fixed_lawful _ _) (λ sort. bind_lawful _ _ index_lawful (λ func. bind_lawful _ _ (vec_lawful _ _ canon_option_lawful) (λ opts. bind_lawful _ _ index_lawful (λ ty. done_lawful _))))
canon_of_lawful canon_forms.Lower = bind_lawful _ _ (fixed_lawful _ _) (λ sort. bind_lawful _ _ index_lawful (λ func. bind_lawful _ _ (vec_lawful _ _ canon_option_lawful) (λ opts. done_lawful _)))
canon_of_lawful canon_forms.ResourceNew = bind_lawful _ _ index_lawful (λ resource. done_lawful _)
canon_of_lawful canon_forms.ResourceDrop = bind_lawful _ _ index_lawful (λ resource. done_lawful _)
canon_of_lawful canon_forms.ResourceRep = bind_lawful _ _ index_lawful (λ resource. done_lawful _)

pub canon_lawful : Lawful canon
unfolding canon
canon_lawful = bind_lawful _ _ (code_lawful _) canon_of_lawful
