-- The laws of interfaces and their items.
use Rattle.std.proofs.Common.{true, false, []}
use Rattle.cm_wit_tokens.specs.declared.keyword.Keyword.TheVariants as word
use Rattle.cm_wit_tokens.specs.declared.operator.Operator.TheVariants as operator
use Rattle.cm_wit_tokens.specs.Exact.{Lawful, Shortens}
use Rattle.cm_wit_tokens.specs.Parts.{identifier}
use Rattle.cm_wit_tokens.proofs.Laws.{done_lawful, bind_lawful, token_lawful, chosen_lawful}
use Rattle.cm_wit_tokens.proofs.ListLaws.{expect_lawful, expect_word_lawful, items_lawful, items_and_lawful, members_lawful, token_shortens_all}
use Rattle.cm_wit_reading.specs.declared.heads.TypeHead.TheVariants as plain_is
use Rattle.cm_wit_reading.specs.Interfaces.{case, def_rest, ended, func_rest, is_static, more_flags, used_name}
use Rattle.cm_wit_reading.specs.Signatures.{any_type, func, params, typed}
use Rattle.cm_wit_reading.specs.Types.{most_depth}
use Rattle.cm_wit_reading.proofs.InterfaceLaws.{name_lawful, braced_lawful, case_lawful, ended_lawful, used_name_lawful}
use Rattle.cm_wit_reading.proofs.SignatureLaws.{func_lawful, params_lawful, path_lawful, typed_lawful}
use Rattle.cm_wit_reading.proofs.TypeLaws.{ty_lawful}
use Rattle.cm_wit_projects_reading.specs.declared.heads.ItemHead.{ItemHead}
use Rattle.cm_wit_projects_reading.specs.declared.heads.ItemHead.TheVariants as item_is
use Rattle.cm_wit_projects_reading.specs.declared.heads.MethodHead.{MethodHead}
use Rattle.cm_wit_projects_reading.specs.declared.heads.MethodHead.TheVariants as method_is
use Rattle.cm_wit_projects_reading.specs.declared.heads.TypeHead as own
use Rattle.cm_wit_projects_reading.specs.declared.heads.TypeHead.TheVariants as type_is
use Rattle.cm_wit_projects_reading.specs.Gates.{gated}
use Rattle.cm_wit_projects_reading.specs.Interfaces.{used_names, use_rest, kept_func, method_rest, resource_item, resource_rest, type_rest, item_rest, interface_item, interface_items, interface_rest}
use Rattle.cm_wit_projects_reading.proofs.GateLaws.{gated_lawful, gated_shortens}
use Rattle.cm_wit_projects_reading.proofs.LeftOutLaws.{or_left_out_lawful}

-- ---- forms of `cm_wit_reading`

static_lawful : Lawful is_static
static_lawful = chosen_lawful _ _ _ (bind_lawful _ _ (expect_word_lawful word.Static) (λ _. done_lawful true)) (done_lawful false)

alias_lawful : Lawful (def_rest plain_is.Type)
alias_lawful = bind_lawful _ _ (expect_lawful operator.Equals) (λ _. bind_lawful _ _ (ended_lawful any_type (ty_lawful true most_depth)) (λ t. done_lawful _))

record_lawful : Lawful (def_rest plain_is.Record)
record_lawful = bind_lawful _ _ (braced_lawful _ (items_lawful operator.RightBrace typed typed_lawful)) (λ fs. done_lawful _)

variant_lawful : Lawful (def_rest plain_is.Variant)
variant_lawful = bind_lawful _ _ (braced_lawful _ (items_lawful operator.RightBrace case case_lawful)) (λ cs. done_lawful _)

enum_lawful : Lawful (def_rest plain_is.Enum)
enum_lawful = bind_lawful _ _ (braced_lawful _ (items_lawful operator.RightBrace identifier name_lawful)) (λ names. done_lawful _)

flags_lawful : Lawful (def_rest plain_is.Flags)
flags_lawful = bind_lawful _ _ (braced_lawful _ (items_and_lawful more_flags operator.RightBrace identifier name_lawful)) (λ names. done_lawful _)

pub ruleset use_laws = used_name_lawful

pub ruleset def_laws = (typed_lawful, case_lawful, name_lawful)

-- ---- used names, functions and resources

used_names_lawful : Lawful used_names
used_names_lawful = chosen_lawful _ _ _ (done_lawful []) (items_lawful operator.RightBrace used_name used_name_lawful)

pub use_lawful : Lawful use_rest
use_lawful = bind_lawful _ _ path_lawful (λ p. bind_lawful _ _ (expect_lawful operator.Period) (λ _. bind_lawful _ _ (ended_lawful _ (braced_lawful _ used_names_lawful)) (λ names. done_lawful _)))

pub kept_func_lawful : Lawful kept_func
kept_func_lawful = or_left_out_lawful operator.Semicolon func_rest (bind_lawful _ _ (expect_word_lawful word.Func) (λ _. ended_lawful func func_lawful))

method_lawful : (head : MethodHead) → Lawful (method_rest head)
method_lawful method_is.Constructor = bind_lawful _ _ (or_left_out_lawful operator.Semicolon (ended params) (ended_lawful params params_lawful)) (λ ps. done_lawful _)
method_lawful (method_is.Named name) = bind_lawful _ _ (expect_lawful operator.Colon) (λ _. bind_lawful _ _ static_lawful (λ s. bind_lawful _ _ kept_func_lawful (λ f. done_lawful _)))

pub gated_resource_lawful : Lawful (gated (λ _. resource_item))
gated_resource_lawful = gated_lawful (λ _. resource_item) (λ _. bind_lawful _ _ (token_lawful _) (λ h. method_lawful h))

pub gated_resource_shortens : Shortens (gated (λ _. resource_item))
gated_resource_shortens = gated_shortens (λ _. resource_item) (λ _. token_shortens_all _ method_rest method_lawful)

pub ruleset resource_item_laws = (gated_resource_lawful, gated_resource_shortens)

resource_lawful : Lawful resource_rest
resource_lawful = chosen_lawful _ _ _ (bind_lawful _ _ (expect_lawful operator.Semicolon) (λ _. done_lawful [])) (braced_lawful _ (members_lawful (gated (λ _. resource_item)) gated_resource_lawful gated_resource_shortens))

-- ---- items

pub type_lawful : (h : own.TypeHead) → Lawful (type_rest h)
type_lawful type_is.Type = bind_lawful _ _ (or_left_out_lawful operator.Semicolon (def_rest plain_is.Type) alias_lawful) (λ t. done_lawful _)
type_lawful type_is.Record = bind_lawful _ _ (or_left_out_lawful operator.RightBrace (def_rest plain_is.Record) record_lawful) (λ t. done_lawful _)
type_lawful type_is.Variant = bind_lawful _ _ (or_left_out_lawful operator.RightBrace (def_rest plain_is.Variant) variant_lawful) (λ t. done_lawful _)
type_lawful type_is.Enum = bind_lawful _ _ enum_lawful (λ t. done_lawful _)
type_lawful type_is.Flags = bind_lawful _ _ flags_lawful (λ t. done_lawful _)
type_lawful type_is.Resource = bind_lawful _ _ resource_lawful (λ fs. done_lawful _)

item_lawful : (head : ItemHead) → Lawful (item_rest head)
item_lawful item_is.Use = bind_lawful _ _ use_lawful (λ u. done_lawful _)
item_lawful (item_is.Type h) = bind_lawful _ _ name_lawful (λ name. bind_lawful _ _ (type_lawful h) (λ t. done_lawful _))
item_lawful (item_is.Func name) = bind_lawful _ _ (expect_lawful operator.Colon) (λ _. bind_lawful _ _ kept_func_lawful (λ f. done_lawful _))

pub gated_interface_lawful : Lawful (gated (λ _. interface_item))
gated_interface_lawful = gated_lawful (λ _. interface_item) (λ _. bind_lawful _ _ (token_lawful _) (λ h. item_lawful h))

pub gated_interface_shortens : Shortens (gated (λ _. interface_item))
gated_interface_shortens = gated_shortens (λ _. interface_item) (λ _. token_shortens_all _ item_rest item_lawful)

pub ruleset interface_item_laws = (gated_interface_lawful, gated_interface_shortens)

pub interface_items_lawful : Lawful interface_items
interface_items_lawful = braced_lawful _ (members_lawful (gated (λ _. interface_item)) gated_interface_lawful gated_interface_shortens)

pub interface_lawful : Lawful interface_rest
interface_lawful = bind_lawful _ _ name_lawful (λ name. bind_lawful _ _ interface_items_lawful (λ xs. done_lawful _))
