use Rattle.std.proofs.Common.{◌≡◌, ◌≤◌, ◌<◌, ◌+◌, ◌∙◌, [], ◌∷◌, sym, ap, refl, arith, codes, length, drop, add-one, drop-cons}
use Rattle.std.proofs.lemmas.List.{drop_all}
use Rattle.std.proofs.lemmas.Result.{IfOk-weaker}
use Rattle.cm_types.specs.declared.core_value.CoreKind.TheVariants.{I32}
use Rattle.cm_types.specs.Types.{enum_type, option_type, result_type}
use Rattle.cm_types.specs.TypeTrees.{type_of, field_of, case_of, cases_of, fields_of, parts_of, shared_payload}
use Rattle.cm_layout.specs.Flattening.{JoinedFrom, flat_of, flat_of_cases, flat_of_fields, flat_of_payload, join_slots}
use Rattle.cm_layout.proofs.FlatLemmas.{flat_before, enum_flat, option_flat, result_flat, joined_same, joined_then, joined_both, more_behind, none_behind, more_over, none_over, more_copies}
use Rattle.cm_layout.proofs.flattening.+flat.Goals as goal
use Rattle.cm_types.proofs.Seen.{seen_Enum, seen_Option, seen_Result, seen_Variant, seen_case, seen_field}

pub join_copies-loop-copy-preserved : goal.join_copies-loop-copy-preserved
join_copies-loop-copy-preserved t c =
    more_copies c.args.at c.loop-copy.end c.in_ok-end.end c.loop-copy._copy c.args.kinds.now.items (flat_of (type_of c.args.element.now)) c.loop-copy.kinds.items c.join_flat.new.kinds.items c.requires c.loop-copy.invariant c.in_ok-end.ensures

pub join_fields-loop-field-preserved : goal.join_fields-loop-field-preserved
join_fields-loop-field-preserved t c =
    let i = c.loop-field.field-index in
    let fs = c.args.row.now in
    let x = c.field-item.result in
    let lt : i < length fs = c.loop-field-test.true in
    let next : drop i fs ≡ x ∷ drop (i + 1) fs = rw (add-one, drop-cons fs i x lt, ← c.field-item.is) refl in
    more_behind c.args.at c.loop-field.end c.in_ok-end.end c.args.kinds.now.items (flat_of_fields (fields_of fs)) (flat_of (field_of x).1) (flat_of_fields (fields_of (drop (i + 1) fs))) c.loop-field.kinds.items c.join_flat.new.kinds.items
    (rw next at c.loop-field.invariant) (rw (← seen_field x) at c.in_ok-end.ensures)

pub join_fields-returns : goal.join_fields-returns
join_fields-returns t c =
    let fs = c.args.row.now in
    let none : drop c.loop-field.field-index fs ≡ [] = drop_all c.loop-field.field-index fs c.loop-field-test.false in
    none_behind c.args.at c.loop-field.end c.args.kinds.now.items (flat_of_fields (fields_of fs)) c.loop-field.kinds.items (rw none at c.loop-field.invariant)

pub join_parts-loop-part-preserved : goal.join_parts-loop-part-preserved
join_parts-loop-part-preserved t c =
    let i = c.loop-part.part-index in
    let ts = c.args.row.now in
    let x = c.part-item.result in
    let lt : i < length ts = c.loop-part-test.true in
    let next : drop i ts ≡ x ∷ drop (i + 1) ts = rw (add-one, drop-cons ts i x lt, ← c.part-item.is) refl in
    more_behind c.args.at c.loop-part.end c.in_ok-end.end c.args.kinds.now.items (flat_of_fields (parts_of ts)) (flat_of (type_of x)) (flat_of_fields (parts_of (drop (i + 1) ts))) c.loop-part.kinds.items c.join_flat.new.kinds.items
    (rw next at c.loop-part.invariant) c.in_ok-end.ensures

pub join_parts-returns : goal.join_parts-returns
join_parts-returns t c =
    let ts = c.args.row.now in
    let none : drop c.loop-part.part-index ts ≡ [] = drop_all c.loop-part.part-index ts c.loop-part-test.false in
    none_behind c.args.at c.loop-part.end c.args.kinds.now.items (flat_of_fields (parts_of ts)) c.loop-part.kinds.items (rw none at c.loop-part.invariant)

pub join_cases-loop-case-preserved : goal.join_cases-loop-case-preserved
join_cases-loop-case-preserved t c =
    let i = c.loop-case.case-index in
    let cs = c.args.row.now in
    let x = c.case-item.result in
    let lt : i < length cs = c.loop-case-test.true in
    let next : drop i cs ≡ x ∷ drop (i + 1) cs = rw (add-one, drop-cons cs i x lt, ← c.case-item.is) refl in
    let rest = cases_of (drop (i + 1) cs) in
    let flat = flat_before (case_of x).0 (case_of x).1 rest in
    more_over c.args.at c.loop-case.end c.in_ok-join_payload.field-0 c.max-end.result c.args.kinds.now.items (flat_of_cases (cases_of cs)) (flat_of_payload (case_of x).1) (flat_of_cases rest) c.loop-case.kinds.items c.join_payload.new.kinds.items
    (rw (next, flat) at c.loop-case.invariant) (rw (← seen_case x) at c.in_ok-join_payload.ensures) c.max-end.ensures

pub join_cases-returns : goal.join_cases-returns
join_cases-returns t c =
    let cs = c.args.row.now in
    let none : drop c.loop-case.case-index cs ≡ [] = drop_all c.loop-case.case-index cs c.loop-case-test.false in
    none_over c.args.at c.loop-case.end c.args.kinds.now.items (flat_of_cases (cases_of cs)) c.loop-case.kinds.items (rw none at c.loop-case.invariant)

pub join_flat-returns-in_ok-payload-in-Variant : goal.join_flat-returns-in_ok-payload-in-Variant
join_flat-returns-in_ok-payload-in-Variant t c =
    let xs = c.args.kinds.now.items in
    let ys = c.join_kind.new.kinds.items in
    let zs = c.join_cases.new.kinds.items in
    let m = c.in_ok-payload-in-Variant.payload in
    let js = flat_of_cases (cases_of c.in-Variant.cases.value.items) in
    let e = rw (c.deref-in-Variant-2.ensures.value, c.deref-in-Variant.ensures) at c.join_cases.ensures in
    rw (ap type_of c.in-Variant.is ∙ seen_Variant c.in-Variant.cases)
    (IfOk-weaker c.join_cases.result (JoinedFrom m ys js zs) (JoinedFrom c.args.at xs (I32 ∷ js) zs)
    (λ n b. joined_then c.args.at m n xs (I32 ∷ []) ys js zs c.requires c.in_ok-payload-in-Variant.ensures b) e)

pub join_flat-returns-in_ok-payload-in-Option : goal.join_flat-returns-in_ok-payload-in-Option
join_flat-returns-in_ok-payload-in-Option t c =
    let xs = c.args.kinds.now.items in
    let ys = c.join_kind-in-Option.new.kinds.items in
    let zs = c.join_flat.new.kinds.items in
    let m = c.in_ok-payload-in-Option.payload in
    let ty = type_of c.in-Option.some.value in
    let e = rw c.deref-in-Option.ensures at c.join_flat.ensures in
    rw (ap type_of c.in-Option.is ∙ seen_Option c.in-Option.some, option_flat option_type (codes "none") (codes "some") (type_of c.in-Option.some.value))
    (IfOk-weaker c.join_flat.result (JoinedFrom m ys (flat_of ty) zs) (JoinedFrom c.args.at xs (I32 ∷ flat_of ty) zs)
    (λ n b. joined_then c.args.at m n xs (I32 ∷ []) ys (flat_of ty) zs c.requires c.in_ok-payload-in-Option.ensures b) e)

pub join_flat-returns-in_ok-error_end-in-Result : goal.join_flat-returns-in_ok-error_end-in-Result
join_flat-returns-in_ok-error_end-in-Result t c =
    let p = shared_payload c.in-Result.ok in
    let q = shared_payload c.in-Result.error in
    let xs = c.args.kinds.now.items in
    let ys = c.join_kind-in-Result.new.kinds.items in
    let zs = c.join_shared.new.kinds.items in
    let ws = c.join_shared-in-Result.new.kinds.items in
    let m = c.in_ok-payload-in-Result.payload in
    let a = c.in_ok-payload-in-Result.ensures in
    let both = joined_both m c.in_ok-ok_end-in-Result.ok_end c.in_ok-error_end-in-Result.error_end c.max.result ys (flat_of_payload p) zs (flat_of_payload q) ws a.within c.in_ok-ok_end-in-Result.ensures c.in_ok-error_end-in-Result.ensures c.max.ensures in
    rw (ap type_of c.in-Result.is ∙ seen_Result c.in-Result.ok c.in-Result.error, result_flat result_type (codes "ok") (codes "error") (shared_payload c.in-Result.ok) (shared_payload c.in-Result.error))
    (joined_then c.args.at m c.max.result xs (I32 ∷ []) ys (join_slots (flat_of_payload p) (flat_of_payload q)) ws c.requires a both)

pub join_flat-returns-in-Enum : goal.join_flat-returns-in-Enum
join_flat-returns-in-Enum t c = rw (ap type_of c.in-Enum.is ∙ seen_Enum c.in-Enum.field-0, enum_flat enum_type c.in-Enum.field-0.value.items) c.join_kind-in-Enum.ensures
