-- The types that the code's trees are.
use Rattle.std.specs.Prelude.{Option, Some, None}
use Rattle.std.specs.Option.{option_map}
use Rattle.std.specs.declared.alloc.Global.{Global}
use Rattle.std.specs.declared.boxed.Box.{Box}
use Rattle.cm_wit_reading.specs.declared.types.WitType as declared
use Rattle.cm_wit_reading.specs.declared.types.WitType.TheOpen as node
use Rattle.cm_wit_reading.specs.declared.types.WitType.TheFolds.{fold-WitType}
use Rattle.cm_wit_reading.specs.declared.types.Head.{Head}
use Rattle.cm_wit_reading.specs.declared.types.Head.TheVariants as head
use Rattle.cm_wit_reading.specs.Types as spec
use Rattle.cm_wit_reading.specs.Types.{Ty, Start}

-- a result, from the types of `ok` and `error`, where there are any
abbrev pub result_from : Option (Box Ty Global) → Option (Box Ty Global) → Ty
result_from None None = spec.plain_result
result_from (Some x) None = spec.ok_result x.value
result_from None (Some y) = spec.error_result y.value
result_from (Some x) (Some y) = spec.result x.value y.value

abbrev pub type_step : node.WitType-F Ty → Ty
type_step (node.Primitive p) = spec.primitive p
type_step (node.Named name) = spec.named name
type_step (node.Borrow name) = spec.borrow name
type_step (node.List t) = spec.list t.value
type_step (node.FixedList t n) = spec.fixed_list t.value n
type_step (node.Option t) = spec.option t.value
type_step (node.Tuple ts) = spec.tuple (spec.types_from ts.items)
type_step (node.Result ok error) = result_from ok error

-- the type that a tree is
abbrev pub type_tree : declared.WitType → Ty
type_tree = fold-WitType Ty type_step

-- the type that a boxed tree is, if there is one
abbrev pub payload_tree : Option (Box declared.WitType Global) → Option Ty
payload_tree payload = option_map (λ b. type_tree b.value) payload

-- what the code's first token says
abbrev pub head_tree : Head → Start
head_tree (head.Primitive p) = spec.whole (spec.primitive p)
head_tree (head.Named name) = spec.whole (spec.named name)
head_tree head.Borrow = spec.borrow_of
head_tree head.List = spec.list_of
head_tree head.Option = spec.option_of
head_tree head.Tuple = spec.tuple_of
head_tree head.Result = spec.result_of
