-- The laws of interfaces and their items.
use Rattle.std.proofs.Common.{[], Some, None, true, false}
use Rattle.cm_wit_tokens.specs.declared.keyword.Keyword.TheVariants as word
use Rattle.cm_wit_tokens.specs.declared.operator.Operator.TheVariants as operator
use Rattle.cm_wit_tokens.specs.Exact.{Lawful, Shortens}
use Rattle.cm_wit_tokens.specs.Grammar.{Grammar}
use Rattle.cm_wit_tokens.specs.Parts.{identifier, identifier_of}
use Rattle.cm_wit_tokens.proofs.Laws.{done_lawful, bind_lawful, token_lawful, chosen_lawful}
use Rattle.cm_wit_tokens.proofs.ListLaws.{expect_lawful, expect_word_lawful, items_lawful, items_and_lawful, members_lawful, token_shortens_all}
use Rattle.cm_wit_reading.specs.Signatures.{typed, func, params, any_type}
use Rattle.cm_wit_reading.specs.Types.{most_depth}
use Rattle.cm_wit_reading.proofs.TypeLaws.{ty_lawful}
use Rattle.cm_wit_reading.proofs.SignatureLaws.{typed_lawful, params_lawful, func_lawful, path_lawful}
use Rattle.cm_wit_reading.specs.declared.heads.TypeHead.{TypeHead}
use Rattle.cm_wit_reading.specs.declared.heads.TypeHead.TheVariants as type_is
use Rattle.cm_wit_reading.specs.declared.heads.ItemHead.{ItemHead}
use Rattle.cm_wit_reading.specs.declared.heads.ItemHead.TheVariants as item_is
use Rattle.cm_wit_reading.specs.declared.heads.MethodHead.{MethodHead}
use Rattle.cm_wit_reading.specs.declared.heads.MethodHead.TheVariants as method_is
use Rattle.cm_wit_reading.specs.Interfaces.{braced, ended, new_name, used_name, use_rest, case_type, case, is_static, func_rest, method_rest, resource_func, resource_rest, more_flags, def_rest, item_rest, interface_item, interface_rest}

pub name_lawful : Lawful identifier
name_lawful = token_lawful identifier_of

pub braced_lawful : {A : Type 0} (g : Grammar A) → Lawful g → Lawful (braced g)
braced_lawful g l = bind_lawful _ _ (expect_lawful operator.LeftBrace) (λ _. bind_lawful _ _ l (λ x. bind_lawful _ _ (expect_lawful operator.RightBrace) (λ _. done_lawful x)))

pub ended_lawful : {A : Type 0} (g : Grammar A) → Lawful g → Lawful (ended g)
ended_lawful g l = bind_lawful _ _ l (λ x. bind_lawful _ _ (expect_lawful operator.Semicolon) (λ _. done_lawful x))

new_name_lawful : Lawful new_name
new_name_lawful = chosen_lawful _ _ _ (bind_lawful _ _ (expect_word_lawful word.As) (λ _. bind_lawful _ _ name_lawful (λ name. done_lawful (Some name)))) (done_lawful None)

pub used_name_lawful : Lawful used_name
used_name_lawful = bind_lawful _ _ name_lawful (λ name. bind_lawful _ _ new_name_lawful (λ new. done_lawful _))

use_lawful : Lawful use_rest
use_lawful = bind_lawful _ _ path_lawful (λ p. bind_lawful _ _ (expect_lawful operator.Period) (λ _. bind_lawful _ _ (ended_lawful _ (braced_lawful _ (items_lawful operator.RightBrace used_name used_name_lawful))) (λ names. done_lawful _)))

any_type_lawful : Lawful any_type
any_type_lawful = ty_lawful true most_depth

case_type_lawful : Lawful case_type
case_type_lawful = chosen_lawful _ _ _ (bind_lawful _ _ (expect_lawful operator.LeftParenthesis) (λ _. bind_lawful _ _ any_type_lawful (λ t. bind_lawful _ _ (expect_lawful operator.RightParenthesis) (λ _. done_lawful (Some t))))) (done_lawful None)

pub case_lawful : Lawful case
case_lawful = bind_lawful _ _ name_lawful (λ name. bind_lawful _ _ case_type_lawful (λ t. done_lawful _))

static_lawful : Lawful is_static
static_lawful = chosen_lawful _ _ _ (bind_lawful _ _ (expect_word_lawful word.Static) (λ _. done_lawful true)) (done_lawful false)

func_rest_lawful : Lawful func_rest
func_rest_lawful = bind_lawful _ _ (expect_word_lawful word.Func) (λ _. ended_lawful func func_lawful)

method_lawful : (h : MethodHead) → Lawful (method_rest h)
method_lawful method_is.Constructor = bind_lawful _ _ (ended_lawful params params_lawful) (λ ps. done_lawful _)
method_lawful (method_is.Named name) = bind_lawful _ _ (expect_lawful operator.Colon) (λ _. bind_lawful _ _ static_lawful (λ s. bind_lawful _ _ func_rest_lawful (λ f. done_lawful _)))

pub resource_func_lawful : Lawful resource_func
resource_func_lawful = bind_lawful _ _ (token_lawful _) (λ h. method_lawful h)

pub resource_func_shortens : Shortens resource_func
resource_func_shortens = token_shortens_all _ method_rest method_lawful

pub ruleset resource_func_laws = (resource_func_lawful, resource_func_shortens)

resource_lawful : Lawful resource_rest
resource_lawful = chosen_lawful _ _ _ (bind_lawful _ _ (expect_lawful operator.Semicolon) (λ _. done_lawful [])) (braced_lawful _ (members_lawful resource_func resource_func_lawful resource_func_shortens))

def_lawful : (h : TypeHead) → Lawful (def_rest h)
def_lawful type_is.Type = bind_lawful _ _ (expect_lawful operator.Equals) (λ _. bind_lawful _ _ (ended_lawful any_type any_type_lawful) (λ t. done_lawful _))
def_lawful type_is.Record = bind_lawful _ _ (braced_lawful _ (items_lawful operator.RightBrace typed typed_lawful)) (λ fs. done_lawful _)
def_lawful type_is.Variant = bind_lawful _ _ (braced_lawful _ (items_lawful operator.RightBrace case case_lawful)) (λ cs. done_lawful _)
def_lawful type_is.Enum = bind_lawful _ _ (braced_lawful _ (items_lawful operator.RightBrace identifier name_lawful)) (λ names. done_lawful _)
def_lawful type_is.Flags = bind_lawful _ _ (braced_lawful _ (items_and_lawful more_flags operator.RightBrace identifier name_lawful)) (λ names. done_lawful _)
def_lawful type_is.Resource = bind_lawful _ _ resource_lawful (λ fs. done_lawful _)

pub ruleset def_laws = (typed_lawful, case_lawful, name_lawful)

item_lawful : (h : ItemHead) → Lawful (item_rest h)
item_lawful item_is.Use = bind_lawful _ _ use_lawful (λ u. done_lawful _)
item_lawful (item_is.Type h) = bind_lawful _ _ name_lawful (λ name. bind_lawful _ _ (def_lawful h) (λ t. done_lawful _))
item_lawful (item_is.Func name) = bind_lawful _ _ (expect_lawful operator.Colon) (λ _. bind_lawful _ _ func_rest_lawful (λ f. done_lawful _))

pub interface_item_lawful : Lawful interface_item
interface_item_lawful = bind_lawful _ _ (token_lawful _) (λ h. item_lawful h)

pub interface_item_shortens : Shortens interface_item
interface_item_shortens = token_shortens_all _ item_rest item_lawful

pub ruleset interface_item_laws = (interface_item_lawful, interface_item_shortens)

pub interface_lawful : Lawful interface_rest
interface_lawful = bind_lawful _ _ name_lawful (λ name. bind_lawful _ _ (braced_lawful _ (members_lawful interface_item interface_item_lawful interface_item_shortens)) (λ xs. done_lawful _))
