use Rattle.std.proofs.Common.{◌≡◌, false, ◌<◌, ◌+◌, ◌∙◌, [], ◌∷◌, sym, ap, refl, codes, length, drop, add-one, drop-cons}
use Rattle.cm_types.specs.Types.{bool, record_type, tuple_type, variant_type, option_type, result_type, plain, carrying, no_cases}
use Rattle.cm_types.specs.TypeTrees.{case_before, type_of, field_of, case_of, cases_of, fields_of, parts_of, shared_payload}
use Rattle.std.proofs.lemmas.List.{drop_all}
use Rattle.cm_layout.specs.Sizes.{discriminant_size}
use Rattle.cm_layout.proofs.SizeLemmas.{two_cases}
use Rattle.cm_layout.proofs.AlignLemmas.{count_of_cases}
use Rattle.cm_layout.proofs.HeadLaws.{head_taken, fields_room, both_positive, both_near, one_small, payload_taken, none_greatest, no_field_taken, no_case_taken, fixed_list_room, room_for_cases, space_for_cases, room_of_option, fixed_list_taken, field_taken, fields_taken, fields_all_taken, cases_taken, case_taken, cases_all_taken, one_greatest, both_greatest, result_room}
use Rattle.cm_layout.proofs.LayoutLemmas.{field_room}
use Rattle.cm_layout.proofs.measures.+heads.Goals as goal
use Rattle.cm_types.proofs.TypesLaws.{seen_Bool}
use Rattle.cm_types.proofs.Seen.{seen_Enum, seen_FixedList, seen_Flags, seen_Option, seen_Record, seen_Result, seen_Tuple, seen_Variant, seen_case, seen_field}

pub fixed_list_head-returns : goal.fixed_list_head-returns
fixed_list_head-returns t c =
    fixed_list_taken (type_of c.args.element.now) c.args.count c.node_head.result c.repeated.result c.node_head.ensures c.repeated.ensures.size c.repeated.ensures.align c.repeated.ensures.width c.repeated.ensures.is_bulk

pub fields_so_far-loop-field-preserved : goal.fields_so_far-loop-field-preserved
fields_so_far-loop-field-preserved t c =
    let i = c.loop-field.field-index in
    let fs = c.args.row.now in
    let x = c.field-item.result in
    let lt : i < length fs = c.loop-field-test.true in
    let next : drop i fs ≡ x ∷ drop (i + 1) fs = rw (add-one, drop-cons fs i x lt, ← c.field-item.is) refl in
    let p = c.push.ensures in
    field_taken (field_of x).0 (field_of x).1 (fields_of fs) (fields_of (drop (i + 1) fs)) c.loop-field.so_far c.push.new.self c.node_head.result (rw next at c.loop-field.invariant) (rw (seen_field x) c.node_head.ensures)
    p.end p.align p.width p.is_bulk

pub parts_so_far-loop-part-preserved : goal.parts_so_far-loop-part-preserved
parts_so_far-loop-part-preserved t c =
    let i = c.loop-part.part-index in
    let ts = c.args.row.now in
    let x = c.part-item.result in
    let lt : i < length ts = c.loop-part-test.true in
    let next : drop i ts ≡ x ∷ drop (i + 1) ts = rw (add-one, drop-cons ts i x lt, ← c.part-item.is) refl in
    let p = c.push.ensures in
    field_taken [] (type_of x) (parts_of ts) (parts_of (drop (i + 1) ts)) c.loop-part.so_far c.push.new.self c.node_head.result (rw next at c.loop-part.invariant) c.node_head.ensures
    p.end p.align p.width p.is_bulk

pub fields_so_far-returns : goal.fields_so_far-returns
fields_so_far-returns t c =
    let none : drop c.loop-field.field-index c.args.row.now ≡ [] = drop_all c.loop-field.field-index c.args.row.now c.loop-field-test.false in
    fields_all_taken (fields_of c.args.row.now) c.loop-field.so_far (rw none at c.loop-field.invariant)

pub parts_so_far-returns : goal.parts_so_far-returns
parts_so_far-returns t c =
    let none : drop c.loop-part.part-index c.args.row.now ≡ [] = drop_all c.loop-part.part-index c.args.row.now c.loop-part-test.false in
    fields_all_taken (parts_of c.args.row.now) c.loop-part.so_far (rw none at c.loop-part.invariant)

pub node_head-returns-in-Record : goal.node_head-returns-in-Record
node_head-returns-in-Record t c =
    let fs = fields_of c.in-Record.fields.value.items in
    let e = rw (c.deref-in-Record-2.ensures.value, c.deref-in-Record.ensures) at c.fields_so_far.ensures in
    let w = c.whole.ensures in
    rw (ap type_of c.in-Record.is ∙ seen_Record c.in-Record.fields)
    (fields_taken record_type fs c.fields_so_far.result c.whole.result e w.size w.align w.width w.is_bulk)

pub node_head-returns-in-Tuple : goal.node_head-returns-in-Tuple
node_head-returns-in-Tuple t c =
    let ts = parts_of c.in-Tuple.parts.value.items in
    let e = rw (c.deref-in-Tuple-2.ensures.value, c.deref-in-Tuple.ensures) at c.parts_so_far.ensures in
    let w = c.whole-in-Tuple.ensures in
    rw (ap type_of c.in-Tuple.is ∙ seen_Tuple c.in-Tuple.parts)
    (fields_taken tuple_type ts c.parts_so_far.result c.whole-in-Tuple.result e w.size w.align w.width w.is_bulk)

pub cases_head-returns : goal.cases_head-returns
cases_head-returns t c =
    cases_taken variant_type (cases_of c.args.row.now) c.cases_so_far.result c.discriminant_size.result c.whole.result c.cases_so_far.ensures
    (c.discriminant_size.ensures.value ∙ ap discriminant_size (sym (count_of_cases c.args.row.now)))
    c.whole.ensures.size c.whole.ensures.align c.whole.ensures.width c.whole.ensures.is_bulk

pub cases_so_far-loop-case-preserved : goal.cases_so_far-loop-case-preserved
cases_so_far-loop-case-preserved t c =
    let i = c.loop-case.case-index in
    let cs = c.args.row.now in
    let x = c.case-item.result in
    let lt : i < length cs = c.loop-case-test.true in
    let next : drop i cs ≡ x ∷ drop (i + 1) cs = rw (add-one, drop-cons cs i x lt, ← c.case-item.is) refl in
    case_taken (case_of x).0 (codes "") (case_of x).1 (cases_of cs) (cases_of (drop (i + 1) cs)) c.loop-case.so_far c.payload_so_far.result c.beside-so_far.result
    (rw next at c.loop-case.invariant) (rw (seen_case x) c.payload_so_far.ensures) c.beside-so_far.ensures.size c.beside-so_far.ensures.align c.beside-so_far.ensures.width

pub cases_so_far-returns : goal.cases_so_far-returns
cases_so_far-returns t c =
    let none : drop c.loop-case.case-index c.args.row.now ≡ [] = drop_all c.loop-case.case-index c.args.row.now c.loop-case-test.false in
    cases_all_taken (cases_of c.args.row.now) c.loop-case.so_far (rw none at c.loop-case.invariant)

pub option_head-returns : goal.option_head-returns
option_head-returns t c =
    let cs = plain (codes "none") (carrying (codes "some") (type_of c.args.some.now) no_cases) in
    cases_taken option_type cs c.with.result 1 c.whole.result
    (one_greatest (codes "none") (codes "some") (type_of c.args.some.now) c.node_head.result c.none.result c.with.result c.none.ensures c.node_head.ensures c.with.ensures.size c.with.ensures.align c.with.ensures.width)
    refl c.whole.ensures.size c.whole.ensures.align c.whole.ensures.width c.whole.ensures.is_bulk

pub node_head-whole-requires-in-Result-clause-fits : goal.node_head-whole-requires-in-Result-clause-fits
node_head-whole-requires-in-Result-clause-fits t c =
    rw c.beside.ensures.size
    (result_room (type_of c.args.ty.now) result_type (codes "ok") (codes "error") (codes "") (codes "") (shared_payload c.in-Result.ok) (shared_payload c.in-Result.error) c.shared_so_far.result c.shared_so_far-in-Result.result
    (ap type_of c.in-Result.is ∙ seen_Result c.in-Result.ok c.in-Result.error) c.requires.within c.shared_so_far.ensures c.shared_so_far-in-Result.ensures).0

pub node_head-whole-requires-in-Result-clause-narrow : goal.node_head-whole-requires-in-Result-clause-narrow
node_head-whole-requires-in-Result-clause-narrow t c =
    rw c.beside.ensures.width
    (result_room (type_of c.args.ty.now) result_type (codes "ok") (codes "error") (codes "") (codes "") (shared_payload c.in-Result.ok) (shared_payload c.in-Result.error) c.shared_so_far.result c.shared_so_far-in-Result.result
    (ap type_of c.in-Result.is ∙ seen_Result c.in-Result.ok c.in-Result.error) c.requires.within c.shared_so_far.ensures c.shared_so_far-in-Result.ensures).1

pub node_head-returns-in-Result : goal.node_head-returns-in-Result
node_head-returns-in-Result t c =
    let p = shared_payload c.in-Result.ok in
    let q = shared_payload c.in-Result.error in
    let cs = case_before (codes "ok") p (case_before (codes "error") q no_cases) in
    rw (ap type_of c.in-Result.is ∙ seen_Result c.in-Result.ok c.in-Result.error)
    (cases_taken result_type cs c.beside.result 1 c.whole-in-Result.result
    (both_greatest (codes "ok") (codes "error") (codes "") (codes "") p q c.shared_so_far.result c.shared_so_far-in-Result.result c.beside.result c.shared_so_far.ensures c.shared_so_far-in-Result.ensures c.beside.ensures.size c.beside.ensures.align c.beside.ensures.width)
    (two_cases (codes "ok") (codes "error") p q) c.whole-in-Result.ensures.size c.whole-in-Result.ensures.align c.whole-in-Result.ensures.width c.whole-in-Result.ensures.is_bulk)

pub cases_head-whole-requires-clause-some : goal.cases_head-whole-requires-clause-some
cases_head-whole-requires-clause-some t c = c.cases_so_far.ensures.positive

pub cases_head-whole-requires-clause-small : goal.cases_head-whole-requires-clause-small
cases_head-whole-requires-clause-small t c = c.cases_so_far.ensures.near

pub cases_head-whole-requires-clause-disc : goal.cases_head-whole-requires-clause-disc
cases_head-whole-requires-clause-disc t c = c.discriminant_size.ensures.small

pub cases_head-whole-requires-clause-fits : goal.cases_head-whole-requires-clause-fits
cases_head-whole-requires-clause-fits t c = room_for_cases variant_type (cases_of c.args.row.now) c.cases_so_far.result c.requires.within c.cases_so_far.ensures

pub cases_head-whole-requires-clause-narrow : goal.cases_head-whole-requires-clause-narrow
cases_head-whole-requires-clause-narrow t c = space_for_cases variant_type (cases_of c.args.row.now) c.cases_so_far.result c.requires.within c.cases_so_far.ensures

pub cases_so_far-loop-case-init : goal.cases_so_far-loop-case-init
cases_so_far-loop-case-init t c = no_case_taken (cases_of c.args.row.now) c.none-so_far.result c.none-so_far.ensures c.requires.within

pub fields_so_far-loop-field-init : goal.fields_so_far-loop-field-init
fields_so_far-loop-field-init t c = no_field_taken (fields_of c.args.row.now) c.none-so_far.result c.none-so_far.ensures c.requires.within

pub parts_so_far-loop-part-init : goal.parts_so_far-loop-part-init
parts_so_far-loop-part-init t c = no_field_taken (parts_of c.args.row.now) c.none-so_far.result c.none-so_far.ensures c.requires.within

pub fields_so_far-push-requires-clause-some : goal.fields_so_far-push-requires-clause-some
fields_so_far-push-requires-clause-some t c = c.node_head.ensures.positive

pub parts_so_far-push-requires-clause-some : goal.parts_so_far-push-requires-clause-some
parts_so_far-push-requires-clause-some t c = c.node_head.ensures.positive

pub fields_so_far-push-requires-clause-fits : goal.fields_so_far-push-requires-clause-fits
fields_so_far-push-requires-clause-fits t c =
    let i = c.loop-field.field-index in
    let fs = c.args.row.now in
    let x = c.field-item.result in
    let lt : i < length fs = c.loop-field-test.true in
    let next : drop i fs ≡ x ∷ drop (i + 1) fs = rw (add-one, drop-cons fs i x lt, ← c.field-item.is) refl in
    (field_room (field_of x).0 (field_of x).1 (fields_of fs) (fields_of (drop (i + 1) fs)) c.loop-field.so_far c.node_head.result (rw next at c.loop-field.invariant) (rw (seen_field x) c.node_head.ensures)).0

pub parts_so_far-push-requires-clause-fits : goal.parts_so_far-push-requires-clause-fits
parts_so_far-push-requires-clause-fits t c =
    let i = c.loop-part.part-index in
    let ts = c.args.row.now in
    let x = c.part-item.result in
    let lt : i < length ts = c.loop-part-test.true in
    let next : drop i ts ≡ x ∷ drop (i + 1) ts = rw (add-one, drop-cons ts i x lt, ← c.part-item.is) refl in
    (field_room [] (type_of x) (parts_of ts) (parts_of (drop (i + 1) ts)) c.loop-part.so_far c.node_head.result (rw next at c.loop-part.invariant) c.node_head.ensures).0

pub fixed_list_head-repeated-requires-clause-fits : goal.fixed_list_head-repeated-requires-clause-fits
fixed_list_head-repeated-requires-clause-fits t c = (fixed_list_room (type_of c.args.element.now) c.args.count c.node_head.result c.requires.within c.node_head.ensures).0

pub fields_so_far-push-requires-clause-narrow : goal.fields_so_far-push-requires-clause-narrow
fields_so_far-push-requires-clause-narrow t c =
    let i = c.loop-field.field-index in
    let fs = c.args.row.now in
    let x = c.field-item.result in
    let lt : i < length fs = c.loop-field-test.true in
    let next : drop i fs ≡ x ∷ drop (i + 1) fs = rw (add-one, drop-cons fs i x lt, ← c.field-item.is) refl in
    (field_room (field_of x).0 (field_of x).1 (fields_of fs) (fields_of (drop (i + 1) fs)) c.loop-field.so_far c.node_head.result (rw next at c.loop-field.invariant) (rw (seen_field x) c.node_head.ensures)).1

pub parts_so_far-push-requires-clause-narrow : goal.parts_so_far-push-requires-clause-narrow
parts_so_far-push-requires-clause-narrow t c =
    let i = c.loop-part.part-index in
    let ts = c.args.row.now in
    let x = c.part-item.result in
    let lt : i < length ts = c.loop-part-test.true in
    let next : drop i ts ≡ x ∷ drop (i + 1) ts = rw (add-one, drop-cons ts i x lt, ← c.part-item.is) refl in
    (field_room [] (type_of x) (parts_of ts) (parts_of (drop (i + 1) ts)) c.loop-part.so_far c.node_head.result (rw next at c.loop-part.invariant) c.node_head.ensures).1

pub fixed_list_head-repeated-requires-clause-narrow : goal.fixed_list_head-repeated-requires-clause-narrow
fixed_list_head-repeated-requires-clause-narrow t c = (fixed_list_room (type_of c.args.element.now) c.args.count c.node_head.result c.requires.within c.node_head.ensures).1

pub node_head-whole-requires-clause-some : goal.node_head-whole-requires-clause-some
node_head-whole-requires-clause-some t c = c.fields_so_far.ensures.positive

pub node_head-whole-requires-clause-fits : goal.node_head-whole-requires-clause-fits
node_head-whole-requires-clause-fits t c =
    let e = rw (c.deref-in-Record-2.ensures.value, c.deref-in-Record.ensures) at c.fields_so_far.ensures in
    fields_room (type_of c.args.ty.now) record_type (fields_of c.in-Record.fields.value.items) c.fields_so_far.result (ap type_of c.in-Record.is ∙ seen_Record c.in-Record.fields) c.requires.within e

pub node_head-whole-requires-in-Tuple-clause-some : goal.node_head-whole-requires-in-Tuple-clause-some
node_head-whole-requires-in-Tuple-clause-some t c = c.parts_so_far.ensures.positive

pub node_head-whole-requires-in-Tuple-clause-fits : goal.node_head-whole-requires-in-Tuple-clause-fits
node_head-whole-requires-in-Tuple-clause-fits t c =
    let e = rw (c.deref-in-Tuple-2.ensures.value, c.deref-in-Tuple.ensures) at c.parts_so_far.ensures in
    fields_room (type_of c.args.ty.now) tuple_type (parts_of c.in-Tuple.parts.value.items) c.parts_so_far.result (ap type_of c.in-Tuple.is ∙ seen_Tuple c.in-Tuple.parts) c.requires.within e

pub node_head-whole-requires-in-Result-clause-some : goal.node_head-whole-requires-in-Result-clause-some
node_head-whole-requires-in-Result-clause-some t c = both_positive c.beside.result.align c.shared_so_far.result.align c.shared_so_far-in-Result.result.align c.beside.ensures.align c.shared_so_far.ensures.positive

pub node_head-whole-requires-in-Result-clause-small : goal.node_head-whole-requires-in-Result-clause-small
node_head-whole-requires-in-Result-clause-small t c = both_near c.beside.result.align c.shared_so_far.result.align c.shared_so_far-in-Result.result.align c.beside.ensures.align c.shared_so_far.ensures.near c.shared_so_far-in-Result.ensures.near

pub node_head-whole-requires-in-Result-clause-disc : goal.node_head-whole-requires-in-Result-clause-disc
node_head-whole-requires-in-Result-clause-disc t c = one_small

pub node_head-returns-in-Bool : goal.node_head-returns-in-Bool
node_head-returns-in-Bool t c = head_taken (type_of c.args.ty.now) bool c.unit.result (record { size = 1; align = 1; width = 1; is_bulk = false }) (ap type_of c.in-Bool.is ∙ seen_Bool) c.unit.ensures refl refl refl refl

pub node_head-returns-in-FixedList : goal.node_head-returns-in-FixedList
node_head-returns-in-FixedList t c = rw (ap type_of c.in-FixedList.is ∙ seen_FixedList c.in-FixedList.element c.in-FixedList.length) (rw c.deref.ensures at c.fixed_list_head.ensures)

pub node_head-returns-in-Variant : goal.node_head-returns-in-Variant
node_head-returns-in-Variant t c = rw (ap type_of c.in-Variant.is ∙ seen_Variant c.in-Variant.cases) (rw (c.deref-in-Variant-2.ensures.value, c.deref-in-Variant.ensures) at c.cases_head.ensures)

pub node_head-returns-in-Enum : goal.node_head-returns-in-Enum
node_head-returns-in-Enum t c = rw (ap type_of c.in-Enum.is ∙ seen_Enum c.in-Enum.labels) (rw (c.deref-in-Enum-2.ensures.value, c.deref-in-Enum.ensures) at c.enum_head.ensures)

pub node_head-returns-in-Flags : goal.node_head-returns-in-Flags
node_head-returns-in-Flags t c = rw (ap type_of c.in-Flags.is ∙ seen_Flags c.in-Flags.labels) (rw (c.deref-in-Flags-2.ensures.value, c.deref-in-Flags.ensures) at c.flags_head.ensures)

pub node_head-returns-in-Option : goal.node_head-returns-in-Option
node_head-returns-in-Option t c = rw (ap type_of c.in-Option.is ∙ seen_Option c.in-Option.some) (rw c.deref-in-Option.ensures at c.option_head.ensures)

pub option_head-whole-requires-clause-some : goal.option_head-whole-requires-clause-some
option_head-whole-requires-clause-some t c =
    let g = one_greatest (codes "none") (codes "some") (type_of c.args.some.now) c.node_head.result c.none.result c.with.result c.none.ensures c.node_head.ensures c.with.ensures.size c.with.ensures.align c.with.ensures.width in
    g.positive

pub option_head-whole-requires-clause-small : goal.option_head-whole-requires-clause-small
option_head-whole-requires-clause-small t c =
    let g = one_greatest (codes "none") (codes "some") (type_of c.args.some.now) c.node_head.result c.none.result c.with.result c.none.ensures c.node_head.ensures c.with.ensures.size c.with.ensures.align c.with.ensures.width in
    g.near

pub option_head-whole-requires-clause-disc : goal.option_head-whole-requires-clause-disc
option_head-whole-requires-clause-disc t c = one_small

pub option_head-whole-requires-clause-fits : goal.option_head-whole-requires-clause-fits
option_head-whole-requires-clause-fits t c =
    let g = one_greatest (codes "none") (codes "some") (type_of c.args.some.now) c.node_head.result c.none.result c.with.result c.none.ensures c.node_head.ensures c.with.ensures.size c.with.ensures.align c.with.ensures.width in
    room_for_cases option_type (plain (codes "none") (carrying (codes "some") (type_of c.args.some.now) no_cases)) c.with.result (room_of_option (type_of c.args.some.now) c.requires.within) g

pub option_head-whole-requires-clause-narrow : goal.option_head-whole-requires-clause-narrow
option_head-whole-requires-clause-narrow t c =
    let g = one_greatest (codes "none") (codes "some") (type_of c.args.some.now) c.node_head.result c.none.result c.with.result c.none.ensures c.node_head.ensures c.with.ensures.size c.with.ensures.align c.with.ensures.width in
    space_for_cases option_type (plain (codes "none") (carrying (codes "some") (type_of c.args.some.now) no_cases)) c.with.result (room_of_option (type_of c.args.some.now) c.requires.within) g

pub payload_so_far-returns-in-Some : goal.payload_so_far-returns-in-Some
payload_so_far-returns-in-Some t c = rw c.in-Some.is (payload_taken [] (type_of c.in-Some.ty) c.node_head.result c.none.result c.with.result c.none.ensures c.node_head.ensures c.with.ensures.size c.with.ensures.align c.with.ensures.width)

pub payload_so_far-returns-in-None : goal.payload_so_far-returns-in-None
payload_so_far-returns-in-None t c = rw c.in-None.is (none_greatest [] c.none-in-None.result c.none-in-None.ensures)

pub shared_so_far-returns-in-Some : goal.shared_so_far-returns-in-Some
shared_so_far-returns-in-Some t c = rw c.in-Some.is (payload_taken [] (type_of c.in-Some.ty.value) c.node_head.result c.none.result c.with.result c.none.ensures (rw c.deref.ensures at c.node_head.ensures) c.with.ensures.size c.with.ensures.align c.with.ensures.width)

pub shared_so_far-returns-in-None : goal.shared_so_far-returns-in-None
shared_so_far-returns-in-None t c = rw c.in-None.is (none_greatest [] c.none-in-None.result c.none-in-None.ensures)
