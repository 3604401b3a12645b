-- The laws of files.
use Rattle.cm_wit_tokens.specs.declared.operator.Operator.TheVariants as operator
use Rattle.cm_wit_tokens.specs.Exact.{Lawful, Shortens}
use Rattle.cm_wit_tokens.proofs.Laws.{done_lawful, bind_lawful, token_lawful}
use Rattle.cm_wit_tokens.proofs.ListLaws.{expect_lawful, members_lawful, token_shortens_all}
use Rattle.cm_wit_reading.proofs.SignatureLaws.{version_lawful}
use Rattle.cm_wit_reading.specs.declared.heads.FileHead.{FileHead}
use Rattle.cm_wit_reading.specs.declared.heads.FileHead.TheVariants as file_is
use Rattle.cm_wit_reading.specs.Files.{file_item_rest, file_item, file}
use Rattle.cm_wit_reading.proofs.InterfaceLaws.{name_lawful, interface_lawful}
use Rattle.cm_wit_reading.proofs.WorldLaws.{world_lawful}

file_item_rest_lawful : (h : FileHead) → Lawful (file_item_rest h)
file_item_rest_lawful file_is.Interface = bind_lawful _ _ interface_lawful (λ i. done_lawful _)
file_item_rest_lawful file_is.World = bind_lawful _ _ world_lawful (λ w. done_lawful _)

pub file_item_lawful : Lawful file_item
file_item_lawful = bind_lawful _ _ (token_lawful _) (λ h. file_item_rest_lawful h)

pub file_item_shortens : Shortens file_item
file_item_shortens = token_shortens_all _ file_item_rest file_item_rest_lawful

pub ruleset file_item_laws = (file_item_lawful, file_item_shortens)

pub file_lawful : Lawful file
file_lawful = bind_lawful _ _ (token_lawful _) (λ _. bind_lawful _ _ name_lawful (λ ns. bind_lawful _ _ (expect_lawful operator.Colon) (λ _. bind_lawful _ _ name_lawful (λ pkg. bind_lawful _ _ version_lawful (λ v. bind_lawful _ _ (expect_lawful operator.Semicolon) (λ _. bind_lawful _ _ (members_lawful file_item file_item_lawful file_item_shortens) (λ xs. done_lawful _)))))))
