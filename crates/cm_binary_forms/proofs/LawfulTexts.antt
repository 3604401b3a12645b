-- Numbers, texts and names are read exactly.
use Rattle.cm_binary_grammar.specs.Grammar.{number}
use Rattle.cm_binary_grammar.proofs.Laws.{Lawful, bind_lawful, number_lawful, raw_lawful, check_lawful, fixed_lawful}
use Rattle.cm_binary_forms.specs.declared.fault.DecodeReason.TheVariants.{BadNumber}
use Rattle.cm_binary_forms.specs.Texts.{text, label, plain_name, extern_name}

pub index_lawful : Lawful (number BadNumber)
index_lawful = number_lawful BadNumber

pub text_lawful : Lawful text
unfolding text
text_lawful = bind_lawful _ _ index_lawful (λ n. check_lawful _ _ _ (raw_lawful n))

pub label_lawful : Lawful label
unfolding label
label_lawful = bind_lawful _ _ index_lawful (λ n. check_lawful _ _ _ (check_lawful _ _ _ (raw_lawful n)))

pub plain_name_lawful : Lawful plain_name
unfolding plain_name
plain_name_lawful = bind_lawful _ _ index_lawful (λ n. check_lawful _ _ _ (check_lawful _ _ _ (raw_lawful n)))

pub extern_name_lawful : Lawful extern_name
unfolding extern_name
extern_name_lawful = bind_lawful _ _ (fixed_lawful _ _) (λ plain. plain_name_lawful)
