use Rattle.std.proofs.Common.{◌+◌, ◌*◌, map, length}
use Rattle.cm_wit_tokens.specs.Grammar.{steps, with_front}
use Rattle.cm_wit_reading.specs.Types.{ty}
use Rattle.cm_wit_tokens.specs.Lists.{next_item}
use Rattle.cm_wit_tokens.specs.declared.operator.Operator.TheVariants as operator
use Rattle.cm_wit_reading.specs.TypeViews.{type_tree}
use Rattle.cm_wit_tokens.proofs.ListLaws.{StepsGo}
use Rattle.cm_wit_reading.proofs.type_reader.+types.Given as goal

abbrev pub decreases-read_error : goal.decreases-read_error
decreases-read_error l = 8 * l.room + 6

abbrev pub decreases-read_further_types : goal.decreases-read_further_types
decreases-read_further_types l = 8 * l.room + 5

abbrev pub decreases-read_list : goal.decreases-read_list
decreases-read_list l = 8 * l.room + 7

abbrev pub decreases-read_next_type : goal.decreases-read_next_type
decreases-read_next_type l = 8 * l.room + 4

abbrev pub decreases-read_only_error : goal.decreases-read_only_error
decreases-read_only_error l = 8 * l.room + 6

abbrev pub decreases-read_option : goal.decreases-read_option
decreases-read_option l = 8 * l.room + 7

abbrev pub decreases-read_result : goal.decreases-read_result
decreases-read_result l = 8 * l.room + 7

abbrev pub decreases-read_tuple : goal.decreases-read_tuple
decreases-read_tuple l = 8 * l.room + 7

abbrev pub decreases-read_type : goal.decreases-read_type
decreases-read_type l = 8 * l.room

abbrev pub decreases-read_types : goal.decreases-read_types
decreases-read_types l = 8 * l.room + 6

abbrev pub invariant-read_further_types-loop-types : goal.invariant-read_further_types-loop-types
invariant-read_further_types-loop-types l = StepsGo (next_item operator.GreaterThan (ty l.borrows l.room)) (map type_tree l.types.items) l.cursor (with_front (map type_tree l.initial.types.items) ((steps (next_item operator.GreaterThan (ty l.borrows l.room))).reads l.initial.cursor))

abbrev pub decreases-read_further_types-loop-types : goal.decreases-read_further_types-loop-types
decreases-read_further_types-loop-types l = length l.cursor
