-- The laws of files.
use Rattle.cm_wit_tokens.specs.declared.keyword.Keyword.TheVariants as word
use Rattle.cm_wit_tokens.specs.declared.operator.Operator.TheVariants as operator
use Rattle.cm_wit_tokens.specs.Exact.{Lawful, Shortens}
use Rattle.cm_wit_tokens.proofs.Laws.{done_lawful, bind_lawful, token_lawful, chosen_lawful}
use Rattle.cm_wit_tokens.proofs.ListLaws.{expect_lawful, expect_word_lawful, members_lawful, token_shortens_all}
use Rattle.cm_wit_reading.specs.Interfaces.{new_name}
use Rattle.cm_wit_reading.proofs.InterfaceLaws.{name_lawful, braced_lawful, ended_lawful}
use Rattle.cm_wit_reading.proofs.SignatureLaws.{path_lawful, version_lawful}
use Rattle.cm_wit_projects_reading.specs.declared.heads.FileHead.{FileHead}
use Rattle.cm_wit_projects_reading.specs.declared.heads.FileHead.TheVariants as file_is
use Rattle.cm_wit_projects_reading.specs.declared.heads.PackageHead.{PackageHead}
use Rattle.cm_wit_projects_reading.specs.declared.heads.PackageHead.TheVariants as package_is
use Rattle.cm_wit_projects_reading.specs.Files.{package_name, top_use_rest, package_item_rest, package_item, package_items, file_item_rest, file_item, file_items, first_rest, first, file}
use Rattle.cm_wit_projects_reading.specs.Gates.{gated}
use Rattle.cm_wit_projects_reading.specs.Trees.{PackageName}
use Rattle.cm_wit_projects_reading.proofs.GateLaws.{gated_lawful, gated_shortens}
use Rattle.cm_wit_projects_reading.proofs.InterfaceLaws.{interface_lawful}
use Rattle.cm_wit_projects_reading.proofs.PlaceLaws.{placed_lawful}
use Rattle.cm_wit_projects_reading.proofs.WorldLaws.{world_lawful}

name_of_package_lawful : Lawful package_name
name_of_package_lawful = bind_lawful _ _ name_lawful (λ ns. bind_lawful _ _ (expect_lawful operator.Colon) (λ _. bind_lawful _ _ name_lawful (λ name. bind_lawful _ _ version_lawful (λ v. done_lawful _))))

new_name_lawful : Lawful new_name
new_name_lawful = chosen_lawful _ _ _ (bind_lawful _ _ (expect_word_lawful word.As) (λ _. bind_lawful _ _ name_lawful (λ name. done_lawful _))) (done_lawful _)

top_use_lawful : Lawful top_use_rest
top_use_lawful = bind_lawful _ _ path_lawful (λ p. bind_lawful _ _ (ended_lawful new_name new_name_lawful) (λ new. done_lawful _))

-- ---- packages

package_rest_lawful : (h : PackageHead) → Lawful (package_item_rest h)
package_rest_lawful package_is.Use = bind_lawful _ _ top_use_lawful (λ u. done_lawful _)
package_rest_lawful package_is.Interface = bind_lawful _ _ interface_lawful (λ i. done_lawful _)
package_rest_lawful package_is.World = bind_lawful _ _ world_lawful (λ w. done_lawful _)

pub gated_package_lawful : Lawful (gated package_item)
gated_package_lawful = gated_lawful package_item (λ b. bind_lawful _ _ (token_lawful _) (λ h. package_rest_lawful h))

pub gated_package_shortens : Shortens (gated package_item)
gated_package_shortens = gated_shortens package_item (λ b. token_shortens_all _ package_item_rest package_rest_lawful)

pub ruleset package_item_laws = (gated_package_lawful, gated_package_shortens)

package_items_lawful : Lawful package_items
package_items_lawful = braced_lawful _ (members_lawful (gated package_item) gated_package_lawful gated_package_shortens)

-- ---- files

file_rest_lawful : (head : FileHead) → Lawful (file_item_rest head)
file_rest_lawful (file_is.Item h) = bind_lawful _ _ (package_rest_lawful h) (λ x. done_lawful _)
file_rest_lawful file_is.Package = bind_lawful _ _ (bind_lawful _ _ name_of_package_lawful (λ name. bind_lawful _ _ package_items_lawful (λ xs. done_lawful _))) (λ p. done_lawful _)

pub gated_file_lawful : Lawful (gated file_item)
gated_file_lawful = gated_lawful file_item (λ b. bind_lawful _ _ (token_lawful _) (λ h. file_rest_lawful h))

pub gated_file_shortens : Shortens (gated file_item)
gated_file_shortens = gated_shortens file_item (λ b. token_shortens_all _ file_item_rest file_rest_lawful)

pub ruleset file_item_laws = (gated_file_lawful, gated_file_shortens)

file_items_lawful : Lawful file_items
file_items_lawful = members_lawful (gated file_item) gated_file_lawful gated_file_shortens

first_rest_lawful : (name : PackageName) → Lawful (first_rest name)
first_rest_lawful name = chosen_lawful _ _ _ (bind_lawful _ _ package_items_lawful (λ xs. done_lawful _)) (bind_lawful _ _ (expect_lawful operator.Semicolon) (λ _. done_lawful _))

first_lawful : Lawful first
first_lawful = bind_lawful _ _ (expect_word_lawful word.Package) (λ _. bind_lawful _ _ name_of_package_lawful (λ name. first_rest_lawful name))

pub file_lawful : Lawful file
file_lawful = chosen_lawful _ _ _ (bind_lawful _ _ (placed_lawful first first_lawful) (λ x. bind_lawful _ _ file_items_lawful (λ xs. done_lawful _))) (bind_lawful _ _ file_items_lawful (λ xs. done_lawful _))
