-- The laws of worlds and their items.
use Rattle.std.proofs.Common.{ℕ, List, []}
use Rattle.cm_wit_tokens.specs.declared.keyword.Keyword.TheVariants as word
use Rattle.cm_wit_tokens.specs.declared.operator.Operator.TheVariants as operator
use Rattle.cm_wit_tokens.specs.Exact.{Lawful, Shortens}
use Rattle.cm_wit_tokens.proofs.Laws.{done_lawful, bind_lawful, token_lawful, chosen_lawful}
use Rattle.cm_wit_tokens.proofs.ListLaws.{expect_lawful, expect_word_lawful, items_lawful, members_lawful, token_shortens_all}
use Rattle.cm_wit_reading.proofs.InterfaceLaws.{name_lawful, braced_lawful, ended_lawful}
use Rattle.cm_wit_reading.proofs.SignatureLaws.{foreign_lawful, path_lawful}
use Rattle.cm_wit_projects_reading.specs.declared.heads.WorldHead.{WorldHead}
use Rattle.cm_wit_projects_reading.specs.declared.heads.WorldHead.TheVariants as world_is
use Rattle.cm_wit_projects_reading.specs.Gates.{gated}
use Rattle.cm_wit_projects_reading.specs.Worlds.{behind_colon, extern, renamed, include_names, include_rest, world_item_rest, world_item, world_rest}
use Rattle.cm_wit_projects_reading.proofs.GateLaws.{gated_lawful, gated_shortens}
use Rattle.cm_wit_projects_reading.proofs.InterfaceLaws.{use_lawful, kept_func_lawful, type_lawful, interface_items_lawful}

behind_colon_lawful : (before : List ℕ) → Lawful (behind_colon before)
behind_colon_lawful name = chosen_lawful _ _ _ (bind_lawful _ _ (expect_word_lawful word.Interface) (λ _. bind_lawful _ _ interface_items_lawful (λ xs. done_lawful _))) (chosen_lawful _ _ _ (bind_lawful _ _ kept_func_lawful (λ f. done_lawful _)) (bind_lawful _ _ (ended_lawful _ (foreign_lawful name)) (λ p. done_lawful _)))

extern_lawful : Lawful extern
extern_lawful = bind_lawful _ _ name_lawful (λ name. chosen_lawful _ _ _ (bind_lawful _ _ (expect_lawful operator.Colon) (λ _. behind_colon_lawful name)) (bind_lawful _ _ (expect_lawful operator.Semicolon) (λ _. done_lawful _)))

pub renamed_lawful : Lawful renamed
renamed_lawful = bind_lawful _ _ name_lawful (λ name. bind_lawful _ _ (expect_word_lawful word.As) (λ _. bind_lawful _ _ name_lawful (λ new. done_lawful _)))

names_lawful : Lawful include_names
names_lawful = chosen_lawful _ _ _ (bind_lawful _ _ (expect_word_lawful word.From) (λ _. braced_lawful _ (items_lawful operator.RightBrace renamed renamed_lawful))) (bind_lawful _ _ (expect_lawful operator.Semicolon) (λ _. done_lawful []))

include_lawful : Lawful include_rest
include_lawful = bind_lawful _ _ path_lawful (λ p. bind_lawful _ _ names_lawful (λ names. done_lawful _))

item_lawful : (h : WorldHead) → Lawful (world_item_rest h)
item_lawful world_is.Import = bind_lawful _ _ extern_lawful (λ e. done_lawful _)
item_lawful world_is.Export = bind_lawful _ _ extern_lawful (λ e. done_lawful _)
item_lawful world_is.Use = bind_lawful _ _ use_lawful (λ u. done_lawful _)
item_lawful (world_is.Type h) = bind_lawful _ _ name_lawful (λ name. bind_lawful _ _ (type_lawful h) (λ t. done_lawful _))
item_lawful world_is.Include = bind_lawful _ _ include_lawful (λ i. done_lawful _)

pub gated_world_lawful : Lawful (gated (λ _. world_item))
gated_world_lawful = gated_lawful (λ _. world_item) (λ _. bind_lawful _ _ (token_lawful _) (λ h. item_lawful h))

pub gated_world_shortens : Shortens (gated (λ _. world_item))
gated_world_shortens = gated_shortens (λ _. world_item) (λ _. token_shortens_all _ world_item_rest item_lawful)

pub ruleset world_item_laws = (gated_world_lawful, gated_world_shortens)

pub world_lawful : Lawful world_rest
world_lawful = bind_lawful _ _ name_lawful (λ name. bind_lawful _ _ (braced_lawful _ (members_lawful (gated (λ _. world_item)) gated_world_lawful gated_world_shortens)) (λ xs. done_lawful _))
