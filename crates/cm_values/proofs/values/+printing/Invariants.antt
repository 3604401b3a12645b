use Rattle.std.proofs.Common.{◌≡◌, ◌++◌, drop}
use Rattle.std.specs.String.{string_bytes}
use Rattle.cm_types.specs.Types.{record_type, tuple_type}
use Rattle.cm_types.specs.TypeTrees.{fields_of, parts_of, type_of}
use Rattle.cm_types.specs.ValueTrees.{values_of}
use Rattle.cm_values.specs.Spelling.{each, fields_by, spelling_by, with_commas}
use Rattle.cm_values.specs.Written.{front}
use Rattle.cm_values.proofs.ListLaws.{from_place}
use Rattle.cm_values.proofs.values.+printing.Given as goal

-- what is written, and what is left, are all of it, as far as the front goes
abbrev pub invariant-put_items-loop-index : goal.invariant-put_items-loop-index
invariant-put_items-loop-index g l =
    let texts = each (spelling_by (g.W.Worded.words l.style.worded) (type_of l.element)) in
    front l.style.room (string_bytes l.out ++ from_place l.index (texts (values_of (drop l.index l.values)))) ≡ front l.style.room (string_bytes l.initial.out ++ with_commas (texts (values_of l.values)))

abbrev pub invariant-put_fields-loop-index : goal.invariant-put_fields-loop-index
invariant-put_fields-loop-index g l =
    let texts = fields_by (g.W.Worded.words l.style.worded) record_type in
    front l.style.room (string_bytes l.out ++ from_place l.index (texts (fields_of (drop l.index l.fields)) (values_of (drop l.index l.values)))) ≡ front l.style.room (string_bytes l.initial.out ++ with_commas (texts (fields_of l.fields) (values_of l.values)))

abbrev pub invariant-put_parts-loop-index : goal.invariant-put_parts-loop-index
invariant-put_parts-loop-index g l =
    let texts = fields_by (g.W.Worded.words l.style.worded) tuple_type in
    front l.style.room (string_bytes l.out ++ from_place l.index (texts (parts_of (drop l.index l.parts)) (values_of (drop l.index l.values)))) ≡ front l.style.room (string_bytes l.initial.out ++ with_commas (texts (parts_of l.parts) (values_of l.values)))
