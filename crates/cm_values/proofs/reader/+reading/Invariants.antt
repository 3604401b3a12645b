use Rattle.std.proofs.Common.{◌≡◌, map, drop, length}
use Rattle.cm_types.specs.Types.{record_type, tuple_type}
use Rattle.cm_types.specs.TypeTrees.{fields_of, parts_of, type_of}
use Rattle.cm_types.specs.ValueTrees.{value_of}
use Rattle.cm_values.specs.Grammar.{steps, with_front}
use Rattle.cm_values.specs.Lists.{next_item}
use Rattle.cm_values.specs.Values.{members, value}
use Rattle.cm_values.proofs.StepLaws.{StepsGo}
use Rattle.cm_values.proofs.reader.+reading.Given as goal

abbrev pub invariant-read_further_items-loop-values : goal.invariant-read_further_items-loop-values
invariant-read_further_items-loop-values l = StepsGo (next_item 0x5D (value (type_of l.element))) (map value_of l.values.items) l.cursor.rest.now (with_front (map value_of l.initial.values.items) ((steps (next_item 0x5D (value (type_of l.element)))).reads l.initial.cursor.rest.now))

abbrev pub decreases-read_further_items-loop-values : goal.decreases-read_further_items-loop-values
decreases-read_further_items-loop-values l = length l.cursor.rest.now

-- what was read, and what is still to be read, are all of it
abbrev pub invariant-read_fields-loop-field : goal.invariant-read_fields-loop-field
invariant-read_fields-loop-field l = with_front (map value_of l.values.items) ((members record_type (fields_of (drop l.field-index l.fields))).reads l.cursor.rest.now) ≡ (members record_type (fields_of l.fields)).reads l.initial.cursor.rest.now

abbrev pub invariant-read_parts-loop-part : goal.invariant-read_parts-loop-part
invariant-read_parts-loop-part l = with_front (map value_of l.values.items) ((members tuple_type (parts_of (drop l.part-index l.parts))).reads l.cursor.rest.now) ≡ (members tuple_type (parts_of l.parts)).reads l.initial.cursor.rest.now
