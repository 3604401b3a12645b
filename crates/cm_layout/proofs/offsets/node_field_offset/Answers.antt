use Rattle.std.proofs.Common.{◌∙◌, ap, arith}
use Rattle.cm_types.specs.TypeTrees.{type_of}
use Rattle.cm_layout.proofs.OffsetLaws.{count_fields, count_parts}
use Rattle.cm_layout.proofs.offsets.node_field_offset.Goals as goal
use Rattle.cm_types.proofs.Seen.{seen_Record, seen_Tuple}

pub field_offset_in-requires-clause-there : goal.field_offset_in-requires-clause-there
field_offset_in-requires-clause-there c =
    let there = rw (ap type_of c.in-Record.is ∙ seen_Record c.in-Record.fields) at c.requires.there in
    let v = c.in-Record.fields.value in
    rw (c.deref-in-Record.ensures.value ∙ ap (λ w. w.items) c.deref.ensures) (omega (arith, there, count_fields v.items))

pub part_offset_in-requires-clause-there : goal.part_offset_in-requires-clause-there
part_offset_in-requires-clause-there c =
    let there = rw (ap type_of c.in-Tuple.is ∙ seen_Tuple c.in-Tuple.parts) at c.requires.there in
    let v = c.in-Tuple.parts.value in
    rw (c.deref-in-Tuple-2.ensures.value ∙ ap (λ w. w.items) c.deref-in-Tuple.ensures) (omega (arith, there, count_parts v.items))
