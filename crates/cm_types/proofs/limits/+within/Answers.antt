use Rattle.std.proofs.Common.{◌≡◌, ◌+◌, ◌<◌, ◌∙◌, [], ◌∷◌, List, length, drop, refl, ap, codes, arith, add-one, drop-cons}
use Rattle.std.proofs.lemmas.List.{drop_all}
use Rattle.cm_types.specs.TypeTrees.{type_of, field_of, case_of, fields_of, parts_of, cases_of, shared_payload}
use Rattle.cm_types.specs.Limits.{nodes_of, nodes_of_fields, nodes_of_cases, payload_nodes, depth_of, depth_of_fields, depth_of_cases, payload_depth}
use Rattle.cm_types.specs.declared.type_trees.TypeNode.{TypeNode}
use Rattle.cm_types.specs.declared.type_trees.Field.{Field}
use Rattle.cm_types.specs.declared.type_trees.Case.{Case}
use Rattle.cm_types.proofs.Nodes.{one_above, one_over, fixed_above, fixed_over, times_over, first_over, second_over, count_fits, count_adds, rest_decides, rest_below, more_over, all_counted, before_nodes, before_depth, result_within, plain_nodes, plain_depth}
use Rattle.cm_types.proofs.Seen.{seen_field, seen_case, seen_FixedList, seen_Record, seen_Tuple, seen_Variant, seen_Enum, seen_Result}
use Rattle.cm_types.proofs.limits.+within.Goals as goal

pub nodes_within-returns-in_ok-second-in-Result : goal.nodes_within-returns-in_ok-second-in-Result
nodes_within-returns-in_ok-second-in-Result t c =
    rw (ap type_of c.in-Result.is ∙ seen_Result c.in-Result.ok c.in-Result.error)
    (result_within c.in_ok-first-in-Result.first c.in_ok-second-in-Result.second c.args.most c.args.depth (codes "ok") (codes "error") (shared_payload c.in-Result.ok) (shared_payload c.in-Result.error)
    (omega arith) (omega arith) c.in_ok-first-in-Result.ensures c.in_ok-second-in-Result.ensures)

pub nodes_within-returns-in-Enum : goal.nodes_within-returns-in-Enum
nodes_within-returns-in-Enum t c =
    rw (ap type_of c.in-Enum.is ∙ seen_Enum c.in-Enum.field-0, plain_nodes c.in-Enum.field-0.value.items, plain_depth c.in-Enum.field-0.value.items)
    ((omega arith, omega arith), omega arith)

pub nodes_within-returns-in_err-below-in-Record : goal.nodes_within-returns-in_err-below-in-Record
nodes_within-returns-in_err-below-in-Record t c =
    let row = fields_of c.in-Record.fields.value.items in
    let is = ap type_of c.in-Record.is ∙ seen_Record c.in-Record.fields in
    rw c.from_residual-in_err-below-in-Record.ensures
    (one_over c.args.most c.args.depth (nodes_of_fields row) (depth_of_fields row) (type_of c.args.ty.now) (ap nodes_of is) (ap depth_of is) (rw (c.deref-in-Record-2.ensures.value, c.deref-in-Record.ensures) at c.in_err-below-in-Record.ensures))

pub nodes_within-returns-in_ok-below-in-Record : goal.nodes_within-returns-in_ok-below-in-Record
nodes_within-returns-in_ok-below-in-Record t c =
    let row = fields_of c.in-Record.fields.value.items in
    let is = ap type_of c.in-Record.is ∙ seen_Record c.in-Record.fields in
    one_above c.args.most c.args.depth (nodes_of_fields row) (depth_of_fields row) c.in_ok-below-in-Record.below (type_of c.args.ty.now) (omega arith) (omega arith) (ap nodes_of is) (ap depth_of is) (rw (c.deref-in-Record-2.ensures.value, c.deref-in-Record.ensures) at c.in_ok-below-in-Record.ensures)

pub nodes_within-returns-in_err-below-in-Tuple : goal.nodes_within-returns-in_err-below-in-Tuple
nodes_within-returns-in_err-below-in-Tuple t c =
    let row = parts_of c.in-Tuple.parts.value.items in
    let is = ap type_of c.in-Tuple.is ∙ seen_Tuple c.in-Tuple.parts in
    rw c.from_residual-in_err-below-in-Tuple.ensures
    (one_over c.args.most c.args.depth (nodes_of_fields row) (depth_of_fields row) (type_of c.args.ty.now) (ap nodes_of is) (ap depth_of is) (rw (c.deref-in-Tuple-2.ensures.value, c.deref-in-Tuple.ensures) at c.in_err-below-in-Tuple.ensures))

pub nodes_within-returns-in_ok-below-in-Tuple : goal.nodes_within-returns-in_ok-below-in-Tuple
nodes_within-returns-in_ok-below-in-Tuple t c =
    let row = parts_of c.in-Tuple.parts.value.items in
    let is = ap type_of c.in-Tuple.is ∙ seen_Tuple c.in-Tuple.parts in
    one_above c.args.most c.args.depth (nodes_of_fields row) (depth_of_fields row) c.in_ok-below-in-Tuple.below (type_of c.args.ty.now) (omega arith) (omega arith) (ap nodes_of is) (ap depth_of is) (rw (c.deref-in-Tuple-2.ensures.value, c.deref-in-Tuple.ensures) at c.in_ok-below-in-Tuple.ensures)

pub nodes_within-returns-in_err-below-in-Variant : goal.nodes_within-returns-in_err-below-in-Variant
nodes_within-returns-in_err-below-in-Variant t c =
    let row = cases_of c.in-Variant.cases.value.items in
    let is = ap type_of c.in-Variant.is ∙ seen_Variant c.in-Variant.cases in
    rw c.from_residual-in_err-below-in-Variant.ensures
    (one_over c.args.most c.args.depth (nodes_of_cases row) (depth_of_cases row) (type_of c.args.ty.now) (ap nodes_of is) (ap depth_of is) (rw (c.deref-in-Variant-2.ensures.value, c.deref-in-Variant.ensures) at c.in_err-below-in-Variant.ensures))

pub nodes_within-returns-in_ok-below-in-Variant : goal.nodes_within-returns-in_ok-below-in-Variant
nodes_within-returns-in_ok-below-in-Variant t c =
    let row = cases_of c.in-Variant.cases.value.items in
    let is = ap type_of c.in-Variant.is ∙ seen_Variant c.in-Variant.cases in
    one_above c.args.most c.args.depth (nodes_of_cases row) (depth_of_cases row) c.in_ok-below-in-Variant.below (type_of c.args.ty.now) (omega arith) (omega arith) (ap nodes_of is) (ap depth_of is) (rw (c.deref-in-Variant-2.ensures.value, c.deref-in-Variant.ensures) at c.in_ok-below-in-Variant.ensures)

pub nodes_within-returns-in_err-below-in-FixedList : goal.nodes_within-returns-in_err-below-in-FixedList
nodes_within-returns-in_err-below-in-FixedList t c =
    let e = c.in-FixedList.element in
    let n = c.in-FixedList.length in
    let is = ap type_of c.in-FixedList.is ∙ seen_FixedList e n in
    rw c.from_residual.ensures (fixed_over c.args.most c.args.depth n (type_of c.args.ty.now) (type_of e.value) is (rw c.deref.ensures at c.in_err-below-in-FixedList.ensures))

pub nodes_within-returns-in_err-all-in-FixedList : goal.nodes_within-returns-in_err-all-in-FixedList
nodes_within-returns-in_err-all-in-FixedList t c =
    let e = c.in-FixedList.element in
    let n = c.in-FixedList.length in
    let is = ap type_of c.in-FixedList.is ∙ seen_FixedList e n in
    let below = rw c.deref.ensures at c.in_ok-below-in-FixedList.ensures in
    rw c.from_residual-in_err-all-in-FixedList.ensures (times_over c.args.most c.args.depth n c.in_ok-below-in-FixedList.below (type_of c.args.ty.now) (type_of e.value) is below.1 c.in_err-all-in-FixedList.ensures)

pub nodes_within-returns-in_ok-all-in-FixedList : goal.nodes_within-returns-in_ok-all-in-FixedList
nodes_within-returns-in_ok-all-in-FixedList t c =
    let e = c.in-FixedList.element in
    let n = c.in-FixedList.length in
    let is = ap type_of c.in-FixedList.is ∙ seen_FixedList e n in
    let below = rw c.deref.ensures at c.in_ok-below-in-FixedList.ensures in
    fixed_above c.args.most c.args.depth n c.in_ok-below-in-FixedList.below c.in_ok-all-in-FixedList.all (type_of c.args.ty.now) (type_of e.value) (omega arith) (omega arith) is below c.in_ok-all-in-FixedList.ensures

pub nodes_within-returns-in_err-first-in-Result : goal.nodes_within-returns-in_err-first-in-Result
nodes_within-returns-in_err-first-in-Result t c =
    let p = shared_payload c.in-Result.ok in
    let q = shared_payload c.in-Result.error in
    let is = ap type_of c.in-Result.is ∙ seen_Result c.in-Result.ok c.in-Result.error in
    rw c.from_residual-in_err-first-in-Result.ensures (first_over c.args.most c.args.depth (type_of c.args.ty.now) (codes "ok") (codes "error") p q is c.in_err-first-in-Result.ensures)

pub nodes_within-returns-in_err-second-in-Result : goal.nodes_within-returns-in_err-second-in-Result
nodes_within-returns-in_err-second-in-Result t c =
    let p = shared_payload c.in-Result.ok in
    let q = shared_payload c.in-Result.error in
    let is = ap type_of c.in-Result.is ∙ seen_Result c.in-Result.ok c.in-Result.error in
    rw c.from_residual-in_err-second-in-Result.ensures
    (second_over c.args.most c.args.depth (type_of c.args.ty.now) (codes "ok") (codes "error") p q is c.in_ok-first-in-Result.first c.in_ok-first-in-Result.ensures.1 c.in_err-second-in-Result.ensures)

pub nodes_of_fields_within-loop-field-preserved : goal.nodes_of_fields_within-loop-field-preserved
nodes_of_fields_within-loop-field-preserved t c =
    let i = c.loop-field.field-index in
    let row = c.args.fields.now in
    let x = c.field-item.result in
    let lt : i < length row = c.loop-field-test.true in
    let next : drop i row ≡ x ∷ drop (i + 1) row = rw (add-one, drop-cons row i x lt, ← c.field-item.is) refl in
    let nodes = ap (λ (xs : List Field). nodes_of_fields (fields_of xs)) next in
    let levels = ap (λ (xs : List Field). depth_of_fields (fields_of xs)) next in
    let so_far = c.loop-field.invariant in
    let is = (rw (← seen_field x) at c.in_ok-more.ensures) in
    record {
      most = count_fits c.args.most c.args.depth c.loop-field.count c.in_ok-more.more (nodes_of (field_of x).1) (depth_of (field_of x).1) (nodes_of_fields (fields_of (drop (i + 1) row))) (depth_of_fields (fields_of (drop (i + 1) row))) (nodes_of_fields (fields_of (drop i row))) (depth_of_fields (fields_of (drop i row))) (nodes_of_fields (fields_of row)) (depth_of_fields (fields_of row)) nodes levels so_far.most so_far.nodes so_far.above so_far.below is;
      nodes = count_adds c.args.most c.args.depth c.loop-field.count c.in_ok-more.more (nodes_of (field_of x).1) (depth_of (field_of x).1) (nodes_of_fields (fields_of (drop (i + 1) row))) (depth_of_fields (fields_of (drop (i + 1) row))) (nodes_of_fields (fields_of (drop i row))) (depth_of_fields (fields_of (drop i row))) (nodes_of_fields (fields_of row)) (depth_of_fields (fields_of row)) nodes levels so_far.most so_far.nodes so_far.above so_far.below is.1;
      above = rest_decides c.args.most c.args.depth c.loop-field.count c.in_ok-more.more (nodes_of (field_of x).1) (depth_of (field_of x).1) (nodes_of_fields (fields_of (drop (i + 1) row))) (depth_of_fields (fields_of (drop (i + 1) row))) (nodes_of_fields (fields_of (drop i row))) (depth_of_fields (fields_of (drop i row))) (nodes_of_fields (fields_of row)) (depth_of_fields (fields_of row)) nodes levels so_far.most so_far.nodes so_far.above so_far.below is.0.1;
      below = rest_below c.args.most c.args.depth c.loop-field.count c.in_ok-more.more (nodes_of (field_of x).1) (depth_of (field_of x).1) (nodes_of_fields (fields_of (drop (i + 1) row))) (depth_of_fields (fields_of (drop (i + 1) row))) (nodes_of_fields (fields_of (drop i row))) (depth_of_fields (fields_of (drop i row))) (nodes_of_fields (fields_of row)) (depth_of_fields (fields_of row)) nodes levels so_far.most so_far.nodes so_far.above so_far.below;
    }

pub nodes_of_fields_within-returns-in_err-more : goal.nodes_of_fields_within-returns-in_err-more
nodes_of_fields_within-returns-in_err-more t c =
    let i = c.loop-field.field-index in
    let row = c.args.fields.now in
    let x = c.field-item.result in
    let lt : i < length row = c.loop-field-test.true in
    let next : drop i row ≡ x ∷ drop (i + 1) row = rw (add-one, drop-cons row i x lt, ← c.field-item.is) refl in
    let nodes = ap (λ (xs : List Field). nodes_of_fields (fields_of xs)) next in
    let levels = ap (λ (xs : List Field). depth_of_fields (fields_of xs)) next in
    let so_far = c.loop-field.invariant in
    rw c.from_residual.ensures (more_over c.args.most c.args.depth c.loop-field.count 0 (nodes_of (field_of x).1) (depth_of (field_of x).1) (nodes_of_fields (fields_of (drop (i + 1) row))) (depth_of_fields (fields_of (drop (i + 1) row))) (nodes_of_fields (fields_of (drop i row))) (depth_of_fields (fields_of (drop i row))) (nodes_of_fields (fields_of row)) (depth_of_fields (fields_of row)) nodes levels so_far.most so_far.nodes so_far.above so_far.below (rw (← seen_field x) at c.in_err-more.ensures))

pub nodes_of_fields_within-returns : goal.nodes_of_fields_within-returns
nodes_of_fields_within-returns t c =
    let row = c.args.fields.now in
    let rest = drop c.loop-field.field-index row in
    let none : rest ≡ [] = drop_all c.loop-field.field-index row c.loop-field-test.false in
    let so_far = c.loop-field.invariant in
    all_counted c.args.most c.args.depth c.loop-field.count (nodes_of_fields (fields_of rest)) (depth_of_fields (fields_of rest)) (nodes_of_fields (fields_of row)) (depth_of_fields (fields_of row)) (ap (λ (xs : List Field). nodes_of_fields (fields_of xs)) none) (ap (λ (xs : List Field). depth_of_fields (fields_of xs)) none) so_far.most so_far.nodes so_far.above

pub nodes_of_parts_within-loop-part-preserved : goal.nodes_of_parts_within-loop-part-preserved
nodes_of_parts_within-loop-part-preserved t c =
    let i = c.loop-part.part-index in
    let row = c.args.parts.now in
    let x = c.part-item.result in
    let lt : i < length row = c.loop-part-test.true in
    let next : drop i row ≡ x ∷ drop (i + 1) row = rw (add-one, drop-cons row i x lt, ← c.part-item.is) refl in
    let nodes = ap (λ (xs : List TypeNode). nodes_of_fields (parts_of xs)) next in
    let levels = ap (λ (xs : List TypeNode). depth_of_fields (parts_of xs)) next in
    let so_far = c.loop-part.invariant in
    let is = c.in_ok-more.ensures in
    record {
      most = count_fits c.args.most c.args.depth c.loop-part.count c.in_ok-more.more (nodes_of (type_of x)) (depth_of (type_of x)) (nodes_of_fields (parts_of (drop (i + 1) row))) (depth_of_fields (parts_of (drop (i + 1) row))) (nodes_of_fields (parts_of (drop i row))) (depth_of_fields (parts_of (drop i row))) (nodes_of_fields (parts_of row)) (depth_of_fields (parts_of row)) nodes levels so_far.most so_far.nodes so_far.above so_far.below is;
      nodes = count_adds c.args.most c.args.depth c.loop-part.count c.in_ok-more.more (nodes_of (type_of x)) (depth_of (type_of x)) (nodes_of_fields (parts_of (drop (i + 1) row))) (depth_of_fields (parts_of (drop (i + 1) row))) (nodes_of_fields (parts_of (drop i row))) (depth_of_fields (parts_of (drop i row))) (nodes_of_fields (parts_of row)) (depth_of_fields (parts_of row)) nodes levels so_far.most so_far.nodes so_far.above so_far.below is.1;
      above = rest_decides c.args.most c.args.depth c.loop-part.count c.in_ok-more.more (nodes_of (type_of x)) (depth_of (type_of x)) (nodes_of_fields (parts_of (drop (i + 1) row))) (depth_of_fields (parts_of (drop (i + 1) row))) (nodes_of_fields (parts_of (drop i row))) (depth_of_fields (parts_of (drop i row))) (nodes_of_fields (parts_of row)) (depth_of_fields (parts_of row)) nodes levels so_far.most so_far.nodes so_far.above so_far.below is.0.1;
      below = rest_below c.args.most c.args.depth c.loop-part.count c.in_ok-more.more (nodes_of (type_of x)) (depth_of (type_of x)) (nodes_of_fields (parts_of (drop (i + 1) row))) (depth_of_fields (parts_of (drop (i + 1) row))) (nodes_of_fields (parts_of (drop i row))) (depth_of_fields (parts_of (drop i row))) (nodes_of_fields (parts_of row)) (depth_of_fields (parts_of row)) nodes levels so_far.most so_far.nodes so_far.above so_far.below;
    }

pub nodes_of_parts_within-returns-in_err-more : goal.nodes_of_parts_within-returns-in_err-more
nodes_of_parts_within-returns-in_err-more t c =
    let i = c.loop-part.part-index in
    let row = c.args.parts.now in
    let x = c.part-item.result in
    let lt : i < length row = c.loop-part-test.true in
    let next : drop i row ≡ x ∷ drop (i + 1) row = rw (add-one, drop-cons row i x lt, ← c.part-item.is) refl in
    let nodes = ap (λ (xs : List TypeNode). nodes_of_fields (parts_of xs)) next in
    let levels = ap (λ (xs : List TypeNode). depth_of_fields (parts_of xs)) next in
    let so_far = c.loop-part.invariant in
    rw c.from_residual.ensures (more_over c.args.most c.args.depth c.loop-part.count 0 (nodes_of (type_of x)) (depth_of (type_of x)) (nodes_of_fields (parts_of (drop (i + 1) row))) (depth_of_fields (parts_of (drop (i + 1) row))) (nodes_of_fields (parts_of (drop i row))) (depth_of_fields (parts_of (drop i row))) (nodes_of_fields (parts_of row)) (depth_of_fields (parts_of row)) nodes levels so_far.most so_far.nodes so_far.above so_far.below c.in_err-more.ensures)

pub nodes_of_parts_within-returns : goal.nodes_of_parts_within-returns
nodes_of_parts_within-returns t c =
    let row = c.args.parts.now in
    let rest = drop c.loop-part.part-index row in
    let none : rest ≡ [] = drop_all c.loop-part.part-index row c.loop-part-test.false in
    let so_far = c.loop-part.invariant in
    all_counted c.args.most c.args.depth c.loop-part.count (nodes_of_fields (parts_of rest)) (depth_of_fields (parts_of rest)) (nodes_of_fields (parts_of row)) (depth_of_fields (parts_of row)) (ap (λ (xs : List TypeNode). nodes_of_fields (parts_of xs)) none) (ap (λ (xs : List TypeNode). depth_of_fields (parts_of xs)) none) so_far.most so_far.nodes so_far.above

pub nodes_of_cases_within-loop-case-preserved : goal.nodes_of_cases_within-loop-case-preserved
nodes_of_cases_within-loop-case-preserved t c =
    let i = c.loop-case.case-index in
    let row = c.args.cases.now in
    let x = c.case-item.result in
    let lt : i < length row = c.loop-case-test.true in
    let next : drop i row ≡ x ∷ drop (i + 1) row = rw (add-one, drop-cons row i x lt, ← c.case-item.is) refl in
    let nodes = ap (λ (xs : List Case). nodes_of_cases (cases_of xs)) next ∙ before_nodes (case_of x).0 (case_of x).1 (cases_of (drop (i + 1) row)) in
    let levels = ap (λ (xs : List Case). depth_of_cases (cases_of xs)) next ∙ before_depth (case_of x).0 (case_of x).1 (cases_of (drop (i + 1) row)) in
    let so_far = c.loop-case.invariant in
    let is = (rw (← seen_case x) at c.in_ok-more.ensures) in
    record {
      most = count_fits c.args.most c.args.depth c.loop-case.count c.in_ok-more.more (payload_nodes (case_of x).1) (payload_depth (case_of x).1) (nodes_of_cases (cases_of (drop (i + 1) row))) (depth_of_cases (cases_of (drop (i + 1) row))) (nodes_of_cases (cases_of (drop i row))) (depth_of_cases (cases_of (drop i row))) (nodes_of_cases (cases_of row)) (depth_of_cases (cases_of row)) nodes levels so_far.most so_far.nodes so_far.above so_far.below is;
      nodes = count_adds c.args.most c.args.depth c.loop-case.count c.in_ok-more.more (payload_nodes (case_of x).1) (payload_depth (case_of x).1) (nodes_of_cases (cases_of (drop (i + 1) row))) (depth_of_cases (cases_of (drop (i + 1) row))) (nodes_of_cases (cases_of (drop i row))) (depth_of_cases (cases_of (drop i row))) (nodes_of_cases (cases_of row)) (depth_of_cases (cases_of row)) nodes levels so_far.most so_far.nodes so_far.above so_far.below is.1;
      above = rest_decides c.args.most c.args.depth c.loop-case.count c.in_ok-more.more (payload_nodes (case_of x).1) (payload_depth (case_of x).1) (nodes_of_cases (cases_of (drop (i + 1) row))) (depth_of_cases (cases_of (drop (i + 1) row))) (nodes_of_cases (cases_of (drop i row))) (depth_of_cases (cases_of (drop i row))) (nodes_of_cases (cases_of row)) (depth_of_cases (cases_of row)) nodes levels so_far.most so_far.nodes so_far.above so_far.below is.0.1;
      below = rest_below c.args.most c.args.depth c.loop-case.count c.in_ok-more.more (payload_nodes (case_of x).1) (payload_depth (case_of x).1) (nodes_of_cases (cases_of (drop (i + 1) row))) (depth_of_cases (cases_of (drop (i + 1) row))) (nodes_of_cases (cases_of (drop i row))) (depth_of_cases (cases_of (drop i row))) (nodes_of_cases (cases_of row)) (depth_of_cases (cases_of row)) nodes levels so_far.most so_far.nodes so_far.above so_far.below;
    }

pub nodes_of_cases_within-returns-in_err-more : goal.nodes_of_cases_within-returns-in_err-more
nodes_of_cases_within-returns-in_err-more t c =
    let i = c.loop-case.case-index in
    let row = c.args.cases.now in
    let x = c.case-item.result in
    let lt : i < length row = c.loop-case-test.true in
    let next : drop i row ≡ x ∷ drop (i + 1) row = rw (add-one, drop-cons row i x lt, ← c.case-item.is) refl in
    let nodes = ap (λ (xs : List Case). nodes_of_cases (cases_of xs)) next ∙ before_nodes (case_of x).0 (case_of x).1 (cases_of (drop (i + 1) row)) in
    let levels = ap (λ (xs : List Case). depth_of_cases (cases_of xs)) next ∙ before_depth (case_of x).0 (case_of x).1 (cases_of (drop (i + 1) row)) in
    let so_far = c.loop-case.invariant in
    rw c.from_residual.ensures (more_over c.args.most c.args.depth c.loop-case.count 0 (payload_nodes (case_of x).1) (payload_depth (case_of x).1) (nodes_of_cases (cases_of (drop (i + 1) row))) (depth_of_cases (cases_of (drop (i + 1) row))) (nodes_of_cases (cases_of (drop i row))) (depth_of_cases (cases_of (drop i row))) (nodes_of_cases (cases_of row)) (depth_of_cases (cases_of row)) nodes levels so_far.most so_far.nodes so_far.above so_far.below (rw (← seen_case x) at c.in_err-more.ensures))

pub nodes_of_cases_within-returns : goal.nodes_of_cases_within-returns
nodes_of_cases_within-returns t c =
    let row = c.args.cases.now in
    let rest = drop c.loop-case.case-index row in
    let none : rest ≡ [] = drop_all c.loop-case.case-index row c.loop-case-test.false in
    let so_far = c.loop-case.invariant in
    all_counted c.args.most c.args.depth c.loop-case.count (nodes_of_cases (cases_of rest)) (depth_of_cases (cases_of rest)) (nodes_of_cases (cases_of row)) (depth_of_cases (cases_of row)) (ap (λ (xs : List Case). nodes_of_cases (cases_of xs)) none) (ap (λ (xs : List Case). depth_of_cases (cases_of xs)) none) so_far.most so_far.nodes so_far.above
