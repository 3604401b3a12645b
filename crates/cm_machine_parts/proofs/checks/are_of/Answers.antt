use Rattle.std.proofs.Common.{◌≡◌, ◌<◌, List, length, map, get_or, ◌∙◌, arith}
use Rattle.std.proofs.lemmas.List.{get_or-map, length-map, take_more_same}
use Rattle.cm_types.specs.CoreValues.{kind_of}
use Rattle.cm_types.specs.declared.core_value.CoreKind.{CoreKind}
use Rattle.cm_types.specs.declared.core_value.CoreKind.TheVariants as core_kind
use Rattle.cm_types.specs.declared.core_value.CoreValue.{CoreValue}
use Rattle.cm_types.specs.declared.core_value.CoreValue.TheVariants as core_value
use Rattle.cm_machine_parts.proofs.checks.are_of.Goals as goal

pub loop-i-preserved : goal.loop-i-preserved
loop-i-preserved c =
    let values = c.args.values.now in
    let kinds = c.args.kinds.now in
    let i = c.loop-i.i in
    let zero_value : CoreValue = core_value.I32 0 in
    let first : CoreKind = core_kind.I32 in
    let in_kinds : i < length kinds = omega arith in
    let in_values : i < length values = omega arith in
    let here : get_or (map kind_of values) i first ≡ kind_of (get_or values i zero_value) = get_or-map kind_of values i zero_value first in_values in
    let is : kind_of (get_or values i zero_value) ≡ get_or kinds i first = c.is_of.ensures.0 cc in
    take_more_same (map kind_of values) kinds i first (omega (arith, length-map values kind_of)) in_kinds c.loop-i.invariant (here ∙ is)
