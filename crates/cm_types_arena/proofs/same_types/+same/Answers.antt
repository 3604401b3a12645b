use Rattle.std.proofs.Common.{◌∙◌, sym, ap, map}
use Rattle.cm_types.specs.TypeTrees.{type_of, field_of, case_of}
use Rattle.cm_types_arena.proofs.SameTypeLemmas.{fields_differ, parts_differ, cases_differ, mapped_differ, enums_same}
use Rattle.cm_types_arena.proofs.same_types.+same.Goals as goal
use Rattle.cm_types.proofs.Seen.{seen_Enum}

pub same_fields-returns-then-a-b : goal.same_fields-returns-then-a-b
same_fields-returns-then-a-b t c = sym (fields_differ c.args.left.now c.args.right.now (map field_of c.args.a.now) (map field_of c.args.b.now) (mapped_differ field_of c.args.a.now c.args.b.now c.if-a-b.true))

pub same_parts-returns-then-a-b : goal.same_parts-returns-then-a-b
same_parts-returns-then-a-b t c = sym (parts_differ c.args.left.now c.args.right.now (map type_of c.args.a.now) (map type_of c.args.b.now) (mapped_differ type_of c.args.a.now c.args.b.now c.if-a-b.true))

pub same_cases-returns-then-a-b : goal.same_cases-returns-then-a-b
same_cases-returns-then-a-b t c = sym (cases_differ c.args.left.now c.args.right.now (map case_of c.args.a.now) (map case_of c.args.b.now) (mapped_differ case_of c.args.a.now c.args.b.now c.if-a-b.true))

pub same_node-returns-in-Enum-Enum : goal.same_node-returns-in-Enum-Enum
same_node-returns-in-Enum-Enum t c =
    let x = c.in-Enum-Enum.x in
    let y = c.in-Enum-Enum.y in
    rw (ap type_of c.in-Enum-Enum.is-0 ∙ seen_Enum c.in-Enum-Enum.x, ap type_of c.in-Enum-Enum.is-1 ∙ seen_Enum c.in-Enum-Enum.y)
    (enums_same c.args.left.now c.args.right.now c.same_labels.result c.deref-in-Enum-Enum-2.result.now c.deref-in-Enum-Enum-4.result.now x.value.items y.value.items
    c.same_labels.ensures (c.deref-in-Enum-Enum-2.ensures.value ∙ ap (λ v. v.items) c.deref-in-Enum-Enum.ensures) (c.deref-in-Enum-Enum-4.ensures.value ∙ ap (λ v. v.items) c.deref-in-Enum-Enum-3.ensures))
