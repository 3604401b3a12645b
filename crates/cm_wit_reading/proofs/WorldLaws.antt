-- The laws of worlds and their items.
use Rattle.std.proofs.Common.{ℕ, List}
use Rattle.cm_wit_tokens.specs.declared.keyword.Keyword.TheVariants as word
use Rattle.cm_wit_tokens.specs.declared.operator.Operator.TheVariants as operator
use Rattle.cm_wit_tokens.specs.Exact.{Lawful, Shortens}
use Rattle.cm_wit_tokens.proofs.Laws.{done_lawful, bind_lawful, token_lawful, chosen_lawful}
use Rattle.cm_wit_tokens.proofs.ListLaws.{expect_lawful, expect_word_lawful, members_lawful, token_shortens_all}
use Rattle.cm_wit_reading.proofs.SignatureLaws.{func_lawful, foreign_lawful}
use Rattle.cm_wit_reading.specs.declared.heads.WorldHead.{WorldHead}
use Rattle.cm_wit_reading.specs.Interfaces.{ended}
use Rattle.cm_wit_reading.specs.Worlds.{behind_colon, extern, with_direction, world_item, world_rest}
use Rattle.cm_wit_tokens.specs.Grammar.{done, ◌>>=◌}
use Rattle.cm_wit_reading.proofs.InterfaceLaws.{name_lawful, braced_lawful, ended_lawful}

behind_colon_lawful : (name : List ℕ) → Lawful (behind_colon name)
behind_colon_lawful name = chosen_lawful _ _ _ (bind_lawful _ _ (expect_word_lawful word.Func) (λ _. bind_lawful _ _ func_lawful (λ f. done_lawful _))) (bind_lawful _ _ (foreign_lawful name) (λ p. done_lawful _))

extern_lawful : Lawful extern
extern_lawful = bind_lawful _ _ name_lawful (λ name. chosen_lawful _ _ _ (bind_lawful _ _ (expect_lawful operator.Colon) (λ _. behind_colon_lawful name)) (done_lawful _))

item_lawful : (h : WorldHead) → Lawful (ended extern >>= λ e. done (with_direction h e))
item_lawful h = bind_lawful _ _ (ended_lawful extern extern_lawful) (λ e. done_lawful _)

pub world_item_lawful : Lawful world_item
world_item_lawful = bind_lawful _ _ (token_lawful _) (λ h. item_lawful h)

pub world_item_shortens : Shortens world_item
world_item_shortens = token_shortens_all _ (λ h. ended extern >>= λ e. done (with_direction h e)) item_lawful

pub ruleset world_item_laws = (world_item_lawful, world_item_shortens)

pub world_lawful : Lawful world_rest
world_lawful = bind_lawful _ _ name_lawful (λ name. bind_lawful _ _ (braced_lawful _ (members_lawful world_item world_item_lawful world_item_shortens)) (λ xs. done_lawful _))
