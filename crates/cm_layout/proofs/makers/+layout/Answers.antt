use Rattle.std.proofs.Common.{◌≡◌, ◌≤◌, ◌<◌, ◌+◌, ◌∙◌, [], ◌∷◌, List, ℕ, Option, Some, None, sym, ap, refl, arith, codes, length, drop, add-one, drop-cons}
use Rattle.std.proofs.lemmas.List.{drop_all}
use Rattle.std.proofs.lemmas.Result.{IfOk-from_err, IfOk-weaker}
use Rattle.std.specs.Option.{option_map}
use Rattle.cm_types.specs.Types.{Ty, list, fixed_list, Fields, Cases, FieldsKind, CasesKind, cases, fields, record_type, tuple_type, variant_type, option_type, result_type, plain, carrying, no_cases, no_fields}
use Rattle.cm_types.specs.TypeTrees.{case_before, type_of, field_of, case_of, cases_of, fields_of, parts_of, shared_payload}
use Rattle.cm_types.specs.Limits.{nodes_of, nodes_of_cases}
use Rattle.cm_layout.specs.declared.layouts.Layout.{Layout}
use Rattle.cm_layout.specs.declared.layouts.Payload.TheVariants as payload
use Rattle.cm_layout.specs.declared.layouts.Form.TheViews as view
use Rattle.cm_layout.specs.Shapes.{layout_at}
use Rattle.cm_layout.specs.Layouts.{IsLayingCases, IsLayingFields, layout_of, payload_of}
use Rattle.cm_layout.proofs.LayoutLemmas.{seen_Carried, seen_Nothing}
use Rattle.cm_layout.proofs.makers.+layout.Goals as goal
use Rattle.cm_types.proofs.TypesLaws.{seen_Bool, seen_Borrow, seen_Char, seen_Own, seen_S16, seen_S32, seen_S64, seen_S8, seen_U16, seen_U32, seen_U64, seen_U8}
use Rattle.cm_types.proofs.Seen.{seen_Enum, seen_FixedList, seen_Flags, seen_List, seen_Option, seen_Record, seen_Result, seen_StringType, seen_Tuple, seen_Variant, seen_case, seen_field}

pub fields_layout-loop-field-preserved : goal.fields_layout-loop-field-preserved
fields_layout-loop-field-preserved t c =
    let i = c.loop-field.field-index in
    let fs = c.args.row.now in
    let x = c.field-item.result in
    let lt : i < length fs = c.loop-field-test.true in
    let next : drop i fs ≡ x ∷ drop (i + 1) fs = rw (add-one, drop-cons fs i x lt, ← c.field-item.is) refl in
    c.in_ok-push.ensures.ok (fields_of fs) (fields_of (drop (i + 1) fs)) (field_of x).0 (field_of x).1 (rw next at c.loop-field.invariant) (rw (← seen_field x) at c.in_ok-node_layout.ensures)

pub parts_layout-loop-part-preserved : goal.parts_layout-loop-part-preserved
parts_layout-loop-part-preserved t c =
    let i = c.loop-part.part-index in
    let ts = c.args.row.now in
    let x = c.part-item.result in
    let lt : i < length ts = c.loop-part-test.true in
    let next : drop i ts ≡ x ∷ drop (i + 1) ts = rw (add-one, drop-cons ts i x lt, ← c.part-item.is) refl in
    c.in_ok-push.ensures.ok (parts_of ts) (parts_of (drop (i + 1) ts)) [] (type_of x) (rw next at c.loop-part.invariant) c.in_ok-node_layout.ensures

pub cases_layout-loop-case-preserved : goal.cases_layout-loop-case-preserved
cases_layout-loop-case-preserved t c =
    let i = c.loop-case.case-index in
    let cs = c.args.row.now in
    let x = c.case-item.result in
    let lt : i < length cs = c.loop-case-test.true in
    let next : drop i cs ≡ x ∷ drop (i + 1) cs = rw (add-one, drop-cons cs i x lt, ← c.case-item.is) refl in
    c.in_ok-push.ensures.ok (cases_of cs) (cases_of (drop (i + 1) cs)) (case_of x).0 (case_of x).1 (rw next at c.loop-case.invariant) (rw (← seen_case x) at c.in_ok-payload_layout.ensures)

pub fields_layout-returns-clause-record : goal.fields_layout-returns-clause-record
fields_layout-returns-clause-record t c =
    let fs = c.args.row.now in
    let none : drop c.loop-field.field-index fs ≡ [] = drop_all c.loop-field.field-index fs c.loop-field-test.false in
    IfOk-weaker c.finish.result (λ l. (k : FieldsKind) (all : Fields) → IsLayingFields all no_fields c.loop-field.builder → layout_of l ≡ layout_at (fields k all)) (λ l. layout_of l ≡ layout_at (fields record_type (fields_of fs)))
    (λ l f. f record_type (fields_of fs) (rw none at c.loop-field.invariant)) c.finish.ensures

pub fields_layout-returns-clause-tuple : goal.fields_layout-returns-clause-tuple
fields_layout-returns-clause-tuple t c =
    let fs = c.args.row.now in
    let none : drop c.loop-field.field-index fs ≡ [] = drop_all c.loop-field.field-index fs c.loop-field-test.false in
    IfOk-weaker c.finish.result (λ l. (k : FieldsKind) (all : Fields) → IsLayingFields all no_fields c.loop-field.builder → layout_of l ≡ layout_at (fields k all)) (λ l. layout_of l ≡ layout_at (fields tuple_type (fields_of fs)))
    (λ l f. f tuple_type (fields_of fs) (rw none at c.loop-field.invariant)) c.finish.ensures

pub parts_layout-returns : goal.parts_layout-returns
parts_layout-returns t c =
    let ts = c.args.row.now in
    let none : drop c.loop-part.part-index ts ≡ [] = drop_all c.loop-part.part-index ts c.loop-part-test.false in
    IfOk-weaker c.finish.result (λ l. (k : FieldsKind) (all : Fields) → IsLayingFields all no_fields c.loop-part.builder → layout_of l ≡ layout_at (fields k all)) (λ l. layout_of l ≡ layout_at (fields tuple_type (parts_of ts)))
    (λ l f. f tuple_type (parts_of ts) (rw none at c.loop-part.invariant)) c.finish.ensures

pub cases_layout-returns : goal.cases_layout-returns
cases_layout-returns t c =
    let cs = c.args.row.now in
    let none : drop c.loop-case.case-index cs ≡ [] = drop_all c.loop-case.case-index cs c.loop-case-test.false in
    IfOk-weaker c.finish.result (λ l. (k : CasesKind) (all : Cases) → IsLayingCases all no_cases c.loop-case.builder → layout_of l ≡ layout_at (cases k all)) (λ l. layout_of l ≡ layout_at (cases variant_type (cases_of cs)))
    (λ l f. f variant_type (cases_of cs) (rw none at c.loop-case.invariant)) c.finish.ensures

carried : (t : Ty) (l : Layout) → layout_of l ≡ layout_at t → payload_of (view.Carried l) ≡ option_map layout_at (Some t)
carried t l e = seen_Carried l ∙ ap Some e

pub option_layout-two_cases-requires : goal.option_layout-two_cases-requires
option_layout-two_cases-requires t c =
    let e = type_of c.args.some.now in
    record { within = (codes "none", codes "some", None, Some e, omega (arith, c.requires.within), seen_Nothing, carried e c.in_ok-some.some c.in_ok-some.ensures) }

pub option_layout-returns : goal.option_layout-returns
option_layout-returns t c =
    let e = type_of c.args.some.now in
    IfOk-weaker c.two_cases.result
    (λ x. (k : CasesKind) (l m : List ℕ) (p q : Option Ty) → nodes_of_cases (case_before l p (case_before m q no_cases)) ≤ 10000
    → payload_of payload.Nothing ≡ option_map layout_at p → payload_of (view.Carried c.in_ok-some.some) ≡ option_map layout_at q → layout_of x ≡ layout_at (cases k (case_before l p (case_before m q no_cases))))
    (λ x. layout_of x ≡ layout_at (cases option_type (plain (codes "none") (carrying (codes "some") (type_of c.args.some.now) no_cases))))
    (λ x f. f option_type (codes "none") (codes "some") None (Some e) (omega (arith, c.requires.within)) seen_Nothing (carried e c.in_ok-some.some c.in_ok-some.ensures))
    c.two_cases.ensures

pub node_layout-returns-in_ok-error-in-Result : goal.node_layout-returns-in_ok-error-in-Result
node_layout-returns-in_ok-error-in-Result t c =
    let p = shared_payload c.in-Result.ok in
    let q = shared_payload c.in-Result.error in
    let is = ap type_of c.in-Result.is ∙ seen_Result c.in-Result.ok c.in-Result.error in
    let n : nodes_of (type_of c.args.ty.now) ≡ nodes_of (cases result_type (case_before (codes "ok") p (case_before (codes "error") q no_cases))) = ap nodes_of is in
    rw is
    (IfOk-weaker c.two_cases.result
    (λ x. (k : CasesKind) (l m : List ℕ) (p q : Option Ty) → nodes_of_cases (case_before l p (case_before m q no_cases)) ≤ 10000
    → payload_of c.in_ok-ok-in-Result.ok ≡ option_map layout_at p → payload_of c.in_ok-error-in-Result.error ≡ option_map layout_at q → layout_of x ≡ layout_at (cases k (case_before l p (case_before m q no_cases))))
    (λ x. layout_of x ≡ layout_at (cases result_type (case_before (codes "ok") p (case_before (codes "error") q no_cases))))
    (λ x f. f result_type (codes "ok") (codes "error") p q (omega (arith, c.requires.within)) c.in_ok-ok-in-Result.ensures c.in_ok-error-in-Result.ensures)
    c.two_cases.ensures)

below_one : (n : ℕ) → 1 + n ≤ 10000 → n ≤ 10000
below_one n h = omega arith

pub cases_layout-returns-in_err-builder : goal.cases_layout-returns-in_err-builder
cases_layout-returns-in_err-builder t c = IfOk-from_err c.from_residual.result _ c.from_residual.ensures.0

pub cases_layout-returns-in_err-payload_layout : goal.cases_layout-returns-in_err-payload_layout
cases_layout-returns-in_err-payload_layout t c = IfOk-from_err c.from_residual-in_err-payload_layout.result _ c.from_residual-in_err-payload_layout.ensures.0

pub cases_layout-returns-in_err-push : goal.cases_layout-returns-in_err-push
cases_layout-returns-in_err-push t c = IfOk-from_err c.from_residual-in_err-push.result _ c.from_residual-in_err-push.ensures.0

pub fields_layout-returns-in_err-builder-clause-record : goal.fields_layout-returns-in_err-builder-clause-record
fields_layout-returns-in_err-builder-clause-record t c = IfOk-from_err c.from_residual.result _ c.from_residual.ensures.0

pub fields_layout-returns-in_err-node_layout-clause-record : goal.fields_layout-returns-in_err-node_layout-clause-record
fields_layout-returns-in_err-node_layout-clause-record t c = IfOk-from_err c.from_residual-in_err-node_layout.result _ c.from_residual-in_err-node_layout.ensures.0

pub fields_layout-returns-in_err-push-clause-record : goal.fields_layout-returns-in_err-push-clause-record
fields_layout-returns-in_err-push-clause-record t c = IfOk-from_err c.from_residual-in_err-push.result _ c.from_residual-in_err-push.ensures.0

pub fields_layout-returns-in_err-builder-clause-tuple : goal.fields_layout-returns-in_err-builder-clause-tuple
fields_layout-returns-in_err-builder-clause-tuple t c = IfOk-from_err c.from_residual.result _ c.from_residual.ensures.0

pub fields_layout-returns-in_err-node_layout-clause-tuple : goal.fields_layout-returns-in_err-node_layout-clause-tuple
fields_layout-returns-in_err-node_layout-clause-tuple t c = IfOk-from_err c.from_residual-in_err-node_layout.result _ c.from_residual-in_err-node_layout.ensures.0

pub fields_layout-returns-in_err-push-clause-tuple : goal.fields_layout-returns-in_err-push-clause-tuple
fields_layout-returns-in_err-push-clause-tuple t c = IfOk-from_err c.from_residual-in_err-push.result _ c.from_residual-in_err-push.ensures.0

pub parts_layout-returns-in_err-builder : goal.parts_layout-returns-in_err-builder
parts_layout-returns-in_err-builder t c = IfOk-from_err c.from_residual.result _ c.from_residual.ensures.0

pub parts_layout-returns-in_err-node_layout : goal.parts_layout-returns-in_err-node_layout
parts_layout-returns-in_err-node_layout t c = IfOk-from_err c.from_residual-in_err-node_layout.result _ c.from_residual-in_err-node_layout.ensures.0

pub parts_layout-returns-in_err-push : goal.parts_layout-returns-in_err-push
parts_layout-returns-in_err-push t c = IfOk-from_err c.from_residual-in_err-push.result _ c.from_residual-in_err-push.ensures.0

pub option_layout-returns-in_err-some : goal.option_layout-returns-in_err-some
option_layout-returns-in_err-some t c = IfOk-from_err c.from_residual.result _ c.from_residual.ensures.0

pub payload_layout-returns-in_err-node_layout-in-Some : goal.payload_layout-returns-in_err-node_layout-in-Some
payload_layout-returns-in_err-node_layout-in-Some t c = IfOk-from_err c.from_residual.result _ c.from_residual.ensures.0

pub shared_layout-returns-in_err-node_layout-in-Some : goal.shared_layout-returns-in_err-node_layout-in-Some
shared_layout-returns-in_err-node_layout-in-Some t c = IfOk-from_err c.from_residual.result _ c.from_residual.ensures.0

pub node_layout-returns-in_err-node_layout-in-List : goal.node_layout-returns-in_err-node_layout-in-List
node_layout-returns-in_err-node_layout-in-List t c = IfOk-from_err c.from_residual.result _ c.from_residual.ensures.0

pub node_layout-returns-in_err-node_layout-in-FixedList : goal.node_layout-returns-in_err-node_layout-in-FixedList
node_layout-returns-in_err-node_layout-in-FixedList t c = IfOk-from_err c.from_residual-in_err-node_layout-in-FixedList.result _ c.from_residual-in_err-node_layout-in-FixedList.ensures.0

pub node_layout-returns-in_err-ok-in-Result : goal.node_layout-returns-in_err-ok-in-Result
node_layout-returns-in_err-ok-in-Result t c = IfOk-from_err c.from_residual-in_err-ok-in-Result.result _ c.from_residual-in_err-ok-in-Result.ensures.0

pub node_layout-returns-in_err-error-in-Result : goal.node_layout-returns-in_err-error-in-Result
node_layout-returns-in_err-error-in-Result t c = IfOk-from_err c.from_residual-in_err-error-in-Result.result _ c.from_residual-in_err-error-in-Result.ensures.0

pub cases_layout-loop-case-init : goal.cases_layout-loop-case-init
cases_layout-loop-case-init t c = c.in_ok-builder.ensures (cases_of c.args.row.now) c.requires.within

pub cases_layout-finish-requires : goal.cases_layout-finish-requires
cases_layout-finish-requires t c =
    let none : drop c.loop-case.case-index c.args.row.now ≡ [] = drop_all c.loop-case.case-index c.args.row.now c.loop-case-test.false in
    (cases_of c.args.row.now, rw none at c.loop-case.invariant)

pub fields_layout-loop-field-init : goal.fields_layout-loop-field-init
fields_layout-loop-field-init t c = c.in_ok-builder.ensures (fields_of c.args.row.now) c.requires.within

pub fields_layout-finish-requires : goal.fields_layout-finish-requires
fields_layout-finish-requires t c =
    let none : drop c.loop-field.field-index c.args.row.now ≡ [] = drop_all c.loop-field.field-index c.args.row.now c.loop-field-test.false in
    (fields_of c.args.row.now, rw none at c.loop-field.invariant)

pub parts_layout-loop-part-init : goal.parts_layout-loop-part-init
parts_layout-loop-part-init t c = c.in_ok-builder.ensures (parts_of c.args.row.now) c.requires.within

pub parts_layout-finish-requires : goal.parts_layout-finish-requires
parts_layout-finish-requires t c =
    let none : drop c.loop-part.part-index c.args.row.now ≡ [] = drop_all c.loop-part.part-index c.args.row.now c.loop-part-test.false in
    (parts_of c.args.row.now, rw none at c.loop-part.invariant)

pub fields_layout-push-requires : goal.fields_layout-push-requires
fields_layout-push-requires t c =
    let i = c.loop-field.field-index in
    let fs = c.args.row.now in
    let x = c.field-item.result in
    let lt : i < length fs = c.loop-field-test.true in
    let next : drop i fs ≡ x ∷ drop (i + 1) fs = rw (add-one, drop-cons fs i x lt, ← c.field-item.is) refl in
    (fields_of fs, fields_of (drop (i + 1) fs), (field_of x).0, (field_of x).1, rw next at c.loop-field.invariant, rw (← seen_field x) at c.in_ok-node_layout.ensures)

pub parts_layout-push-requires : goal.parts_layout-push-requires
parts_layout-push-requires t c =
    let i = c.loop-part.part-index in
    let ts = c.args.row.now in
    let x = c.part-item.result in
    let lt : i < length ts = c.loop-part-test.true in
    let next : drop i ts ≡ x ∷ drop (i + 1) ts = rw (add-one, drop-cons ts i x lt, ← c.part-item.is) refl in
    (parts_of ts, parts_of (drop (i + 1) ts), [], type_of x, rw next at c.loop-part.invariant, c.in_ok-node_layout.ensures)

pub node_layout-fixed_list-requires : goal.node_layout-fixed_list-requires
node_layout-fixed_list-requires t c =
    let e = c.in-FixedList.element in
    let is = ap type_of c.in-FixedList.is ∙ seen_FixedList e c.in-FixedList.length in
    (type_of e.value, rw is at c.requires.within, rw c.deref-in-FixedList.ensures at c.in_ok-node_layout-in-FixedList.ensures)

pub node_layout-two_cases-requires : goal.node_layout-two_cases-requires
node_layout-two_cases-requires t c =
    let p = shared_payload c.in-Result.ok in
    let q = shared_payload c.in-Result.error in
    let is = ap type_of c.in-Result.is ∙ seen_Result c.in-Result.ok c.in-Result.error in
    record { within = (codes "ok", codes "error", p, q, below_one (nodes_of_cases (case_before (codes "ok") p (case_before (codes "error") q no_cases))) (rw is at c.requires.within), c.in_ok-ok-in-Result.ensures, c.in_ok-error-in-Result.ensures) }

pub node_layout-returns-in-Bool : goal.node_layout-returns-in-Bool
node_layout-returns-in-Bool t c = c.leaf.ensures ∙ sym (ap layout_at (ap type_of c.in-Bool.is ∙ seen_Bool))

pub node_layout-returns-in-S8 : goal.node_layout-returns-in-S8
node_layout-returns-in-S8 t c = c.leaf-in-S8.ensures ∙ sym (ap layout_at (ap type_of c.in-S8.is ∙ seen_S8))

pub node_layout-returns-in-U8 : goal.node_layout-returns-in-U8
node_layout-returns-in-U8 t c = c.leaf-in-U8.ensures ∙ sym (ap layout_at (ap type_of c.in-U8.is ∙ seen_U8))

pub node_layout-returns-in-S16 : goal.node_layout-returns-in-S16
node_layout-returns-in-S16 t c = c.leaf-in-S16.ensures ∙ sym (ap layout_at (ap type_of c.in-S16.is ∙ seen_S16))

pub node_layout-returns-in-U16 : goal.node_layout-returns-in-U16
node_layout-returns-in-U16 t c = c.leaf-in-U16.ensures ∙ sym (ap layout_at (ap type_of c.in-U16.is ∙ seen_U16))

pub node_layout-returns-in-S32 : goal.node_layout-returns-in-S32
node_layout-returns-in-S32 t c = c.leaf-in-S32.ensures ∙ sym (ap layout_at (ap type_of c.in-S32.is ∙ seen_S32))

pub node_layout-returns-in-U32 : goal.node_layout-returns-in-U32
node_layout-returns-in-U32 t c = c.leaf-in-U32.ensures ∙ sym (ap layout_at (ap type_of c.in-U32.is ∙ seen_U32))

pub node_layout-returns-in-S64 : goal.node_layout-returns-in-S64
node_layout-returns-in-S64 t c = c.leaf-in-S64.ensures ∙ sym (ap layout_at (ap type_of c.in-S64.is ∙ seen_S64))

pub node_layout-returns-in-U64 : goal.node_layout-returns-in-U64
node_layout-returns-in-U64 t c = c.leaf-in-U64.ensures ∙ sym (ap layout_at (ap type_of c.in-U64.is ∙ seen_U64))

pub node_layout-returns-in-Char : goal.node_layout-returns-in-Char
node_layout-returns-in-Char t c = c.leaf-in-Char.ensures ∙ sym (ap layout_at (ap type_of c.in-Char.is ∙ seen_Char))

pub node_layout-returns-in-String : goal.node_layout-returns-in-String
node_layout-returns-in-String t c = c.string.ensures ∙ sym (ap layout_at (ap type_of c.in-String.is ∙ seen_StringType))

pub node_layout-returns-in-Own : goal.node_layout-returns-in-Own
node_layout-returns-in-Own t c = c.handle.ensures ∙ sym (ap layout_at (ap type_of c.in-Own.is ∙ seen_Own c.in-Own.resource))

pub node_layout-returns-in-Borrow : goal.node_layout-returns-in-Borrow
node_layout-returns-in-Borrow t c = c.handle-in-Borrow.ensures ∙ sym (ap layout_at (ap type_of c.in-Borrow.is ∙ seen_Borrow c.in-Borrow.resource))

pub node_layout-returns-in_ok-node_layout-in-List : goal.node_layout-returns-in_ok-node_layout-in-List
node_layout-returns-in_ok-node_layout-in-List t c =
    let e = c.in-List.element in
    rw (ap type_of c.in-List.is ∙ seen_List e)
    (IfOk-weaker c.list.result (λ l. (t : Ty) → layout_of c.in_ok-node_layout-in-List.field-0 ≡ layout_at t → layout_of l ≡ layout_at (list t)) (λ l. layout_of l ≡ layout_at (list (type_of e.value)))
    (λ l f. f (type_of e.value) (rw c.deref.ensures at c.in_ok-node_layout-in-List.ensures)) c.list.ensures)

pub node_layout-returns-in_ok-node_layout-in-FixedList : goal.node_layout-returns-in_ok-node_layout-in-FixedList
node_layout-returns-in_ok-node_layout-in-FixedList t c =
    let e = c.in-FixedList.element in
    let n = c.in-FixedList.length in
    rw (ap type_of c.in-FixedList.is ∙ seen_FixedList e n)
    (IfOk-weaker c.fixed_list.result (λ l. (t : Ty) → layout_of c.in_ok-node_layout-in-FixedList.field-0 ≡ layout_at t → layout_of l ≡ layout_at (fixed_list t n)) (λ l. layout_of l ≡ layout_at (fixed_list (type_of e.value) n))
    (λ l f. f (type_of e.value) (rw c.deref-in-FixedList.ensures at c.in_ok-node_layout-in-FixedList.ensures)) c.fixed_list.ensures)

pub node_layout-returns-in-Record : goal.node_layout-returns-in-Record
node_layout-returns-in-Record t c = rw (ap type_of c.in-Record.is ∙ seen_Record c.in-Record.fields) (rw (c.deref-in-Record-2.ensures.value, c.deref-in-Record.ensures) at c.fields_layout.ensures.record)

pub node_layout-returns-in-Tuple : goal.node_layout-returns-in-Tuple
node_layout-returns-in-Tuple t c = rw (ap type_of c.in-Tuple.is ∙ seen_Tuple c.in-Tuple.parts) (rw (c.deref-in-Tuple-2.ensures.value, c.deref-in-Tuple.ensures) at c.parts_layout.ensures)

pub node_layout-returns-in-Variant : goal.node_layout-returns-in-Variant
node_layout-returns-in-Variant t c = rw (ap type_of c.in-Variant.is ∙ seen_Variant c.in-Variant.cases) (rw (c.deref-in-Variant-2.ensures.value, c.deref-in-Variant.ensures) at c.cases_layout.ensures)

pub node_layout-returns-in-Enum : goal.node_layout-returns-in-Enum
node_layout-returns-in-Enum t c =
    let ls = c.in-Enum.labels in
    let long : length ls.value.items ≡ c.len.result = rw (c.len.ensures, c.deref-in-Enum.ensures) (sym ls.value.ok.0) in
    c.enumeration.ensures ls.value.items long ∙ sym (ap layout_at (ap type_of c.in-Enum.is ∙ seen_Enum ls))

pub node_layout-returns-in-Flags : goal.node_layout-returns-in-Flags
node_layout-returns-in-Flags t c =
    let ls = c.in-Flags.labels in
    let long : length ls.value.items ≡ c.len-in-Flags.result = rw (c.len-in-Flags.ensures, c.deref-in-Flags.ensures) (sym ls.value.ok.0) in
    c.flags.ensures ls.value.items long ∙ sym (ap layout_at (ap type_of c.in-Flags.is ∙ seen_Flags ls))

pub node_layout-returns-in-Option : goal.node_layout-returns-in-Option
node_layout-returns-in-Option t c = rw (ap type_of c.in-Option.is ∙ seen_Option c.in-Option.some) (rw c.deref-in-Option.ensures at c.option_layout.ensures)

pub payload_layout-returns-in_ok-node_layout-in-Some : goal.payload_layout-returns-in_ok-node_layout-in-Some
payload_layout-returns-in_ok-node_layout-in-Some t c = rw c.in-Some.is (carried (type_of c.in-Some.ty) c.in_ok-node_layout-in-Some.field-0 c.in_ok-node_layout-in-Some.ensures)

pub payload_layout-returns-in-None : goal.payload_layout-returns-in-None
payload_layout-returns-in-None t c = rw c.in-None.is seen_Nothing

pub shared_layout-returns-in_ok-node_layout-in-Some : goal.shared_layout-returns-in_ok-node_layout-in-Some
shared_layout-returns-in_ok-node_layout-in-Some t c = rw c.in-Some.is (carried (type_of c.in-Some.ty.value) c.in_ok-node_layout-in-Some.field-0 (rw c.deref.ensures at c.in_ok-node_layout-in-Some.ensures))

pub shared_layout-returns-in-None : goal.shared_layout-returns-in-None
shared_layout-returns-in-None t c = rw c.in-None.is seen_Nothing
