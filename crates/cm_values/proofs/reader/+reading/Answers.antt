use Rattle.std.proofs.Common.{◌≡◌, ℕ, List, Result, Option, Ok, ap, ◌∙◌, map, subst, sym, arith}
use Rattle.std.specs.Option.{option_map}
use Rattle.std.proofs.lemmas.List.{map-append}
use Rattle.std.proofs.lemmas.Result.{err_from_is_err_and}
use Rattle.cm_types.specs.Types.{Ty, cases, option_type, record_type}
use Rattle.cm_types.specs.TypeTrees.{shared_payload, type_of}
use Rattle.cm_types.specs.ValueTrees.{value_of}
use Rattle.cm_values.specs.Lists.{next_item}
use Rattle.cm_values.specs.Values.{case_value, value}
use Rattle.cm_values.specs.Words.{known}
use Rattle.cm_types.specs.declared.values.Value.{Value}
use Rattle.cm_types.specs.Values.{Val, bearing}
use Rattle.cm_types.specs.declared.type_trees.TypeNode.{TypeNode}
use Rattle.cm_types.proofs.Seen.{seen_Option, seen_Result}
use Rattle.cm_values.specs.declared.value_fault.Fault.{Fault}
use Rattle.cm_values.specs.ReadFaults.{Gives}
use Rattle.cm_values.specs.Reading.{Reads}
use Rattle.cm_lemmas.proofs.Results.{ok_of}
use Rattle.cm_values.proofs.CaseReads.{option_cases, payload_reads, result_error, result_names, result_ok, seen_bearing, variant_fails, variant_reads, variant_reads_past}
use Rattle.cm_values.proofs.LoopLaws.{fields_end, fields_fail, fields_next, front_none, parts_end, parts_fail, parts_next}
use Rattle.cm_values.proofs.StepLaws.{loop_end, loop_fail, loop_go_on}
use Rattle.cm_values.proofs.ValueLaws.{value_lawful}
use Rattle.cm_values.proofs.WordLaws.{next_item_moves}
use Rattle.cm_values.proofs.reader.+reading.Goals as goal

pub read_further_items-returns-in_err-value : goal.read_further_items-returns-in_err-value
read_further_items-returns-in_err-value t c =
    let p = err_from_is_err_and c.from_residual.result c.from_residual.ensures.1 in
    rw (p.1, p.2) (loop_fail value_of (next_item 0x5D (value (type_of c.args.element.now))) c.loop-values.values.items c.loop-values.cursor.rest.now c.in_err-value.field-0.0 _ c.loop-values.invariant c.in_err-value.ensures)

pub read_further_items-loop-values-smaller : goal.read_further_items-loop-values-smaller
read_further_items-loop-values-smaller t c = next_item_moves 0x5D (value (type_of c.args.element.now)) (value_lawful (type_of c.args.element.now)) c.loop-values.cursor.rest.now (value_of c.in-Some.value) c.read_next_item.new.cursor.rest.now (c.in_ok-value.ensures ∙ ap (λ (o : Option _). Ok (option_map value_of o, c.read_next_item.new.cursor.rest.now)) c.in-Some.is)

pub read_further_items-loop-values-preserved : goal.read_further_items-loop-values-preserved
read_further_items-loop-values-preserved t c = rw c.in_ok-push.ensures.items (loop_go_on value_of (next_item 0x5D (value (type_of c.args.element.now))) (next_item_moves 0x5D (value (type_of c.args.element.now)) (value_lawful (type_of c.args.element.now))) c.loop-values.values.items c.in-Some.value c.loop-values.cursor.rest.now c.read_next_item.new.cursor.rest.now _ c.loop-values.invariant (c.in_ok-value.ensures ∙ ap (λ (o : Option _). Ok (option_map value_of o, c.read_next_item.new.cursor.rest.now)) c.in-Some.is))

pub read_further_items-returns : goal.read_further_items-returns
read_further_items-returns t c = loop_end value_of (next_item 0x5D (value (type_of c.args.element.now))) c.loop-values.values.items c.loop-values.cursor.rest.now c.read_next_item.new.cursor.rest.now _ c.loop-values.invariant (c.in_ok-value.ensures ∙ ap (λ (o : Option _). Ok (option_map value_of o, c.read_next_item.new.cursor.rest.now)) c.in_default.is)

pub read_fields-loop-field-init : goal.read_fields-loop-field-init
read_fields-loop-field-init t c = rw c.new-values.ensures.items (front_none _)

pub read_fields-loop-field-preserved : goal.read_fields-loop-field-preserved
read_fields-loop-field-preserved t c =
    rw (c.in_ok-push.ensures.items, map-append) (fields_next record_type c.args.fields.now c.loop-field.field-index c.field-item.result (map value_of c.loop-field.values.items) (value_of c.in_ok-value.value) c.loop-field.cursor.rest.now c.read_field.new.cursor.rest.now _ c.loop-field-test.true c.field-item.is c.loop-field.invariant c.in_ok-value.ensures)

pub read_fields-returns-in_err-value : goal.read_fields-returns-in_err-value
read_fields-returns-in_err-value t c =
    let p = err_from_is_err_and c.from_residual.result c.from_residual.ensures.1 in
    rw (p.1, p.2) (fields_fail record_type c.args.fields.now c.loop-field.field-index c.field-item.result (map value_of c.loop-field.values.items) c.loop-field.cursor.rest.now c.in_err-value.field-0.0 _ c.loop-field-test.true c.field-item.is c.loop-field.invariant c.in_err-value.ensures)

pub read_fields-returns : goal.read_fields-returns
read_fields-returns t c = fields_end record_type c.args.fields.now c.loop-field.field-index (map value_of c.loop-field.values.items) c.loop-field.cursor.rest.now _ c.loop-field-test.false c.loop-field.invariant

pub read_parts-loop-part-init : goal.read_parts-loop-part-init
read_parts-loop-part-init t c = rw c.new-values.ensures.items (front_none _)

pub read_parts-loop-part-preserved : goal.read_parts-loop-part-preserved
read_parts-loop-part-preserved t c =
    rw (c.in_ok-push.ensures.items, map-append) (parts_next c.args.parts.now c.loop-part.part-index c.part-item.result (map value_of c.loop-part.values.items) (value_of c.in_ok-value.value) c.loop-part.cursor.rest.now c.read_part.new.cursor.rest.now _ c.loop-part-test.true c.part-item.is c.loop-part.invariant c.in_ok-value.ensures)

pub read_parts-returns-in_err-value : goal.read_parts-returns-in_err-value
read_parts-returns-in_err-value t c =
    let p = err_from_is_err_and c.from_residual.result c.from_residual.ensures.1 in
    rw (p.1, p.2) (parts_fail c.args.parts.now c.loop-part.part-index c.part-item.result (map value_of c.loop-part.values.items) c.loop-part.cursor.rest.now c.in_err-value.field-0.0 _ c.loop-part-test.true c.part-item.is c.loop-part.invariant c.in_err-value.ensures)

pub read_parts-returns : goal.read_parts-returns
read_parts-returns t c = parts_end c.args.parts.now c.loop-part.part-index (map value_of c.loop-part.values.items) c.loop-part.cursor.rest.now _ c.loop-part-test.false c.loop-part.invariant

pub read_variant-returns-in_err-index : goal.read_variant-returns-in_err-index
read_variant-returns-in_err-index t c =
    let p = err_from_is_err_and c.from_residual.result c.from_residual.ensures.1 in
    rw (p.1, p.2) (variant_fails c.args.variants.now c.in_err-index.field-0.0 c.args.cursor.now.rest.now c.in_err-index.ensures)

pub read_variant-returns-in-Some : goal.read_variant-returns-in-Some
read_variant-returns-in-Some t c =
    let case = c.in-Some.case.now in
    let e = variant_reads c.args.variants.now c.in_ok-index.index case c.args.cursor.now.rest.now c.read_case_name.new.cursor.rest.now c.in-Some.ensures.lookup.3.0 c.in-Some.ensures.lookup.1 c.in_ok-index.ensures in
    subst (λ (z : Result (Val × List ℕ) Fault). Gives (λ (x : Value). (value_of x, c.read_case.new.cursor.rest.now)) c.read_case.result z) (sym e) c.read_case.ensures

pub read_variant-returns-in-None : goal.read_variant-returns-in-None
read_variant-returns-in-None t c =
    rw c.fault.ensures (variant_reads_past c.args.variants.now c.in_ok-index.index c.args.cursor.now.rest.now c.read_case_name.new.cursor.rest.now c.in-None.ensures.lookup.3 c.in_ok-index.ensures)

pub read_payload-returns : goal.read_payload-returns
read_payload-returns t c =
    let rest = c.mark-2.new.self.rest.now in
    payload_reads (value (type_of c.args.ty.now)) c.args.index c.args.cursor.now.rest.now c.mark.new.self.rest.now c.read_value.new.cursor.rest.now rest _ _ (value_of c.in_ok-read_value.field-0) c.in_ok-mark.ensures c.in_ok-read_value.ensures c.in_ok-mark-2.ensures
    ∙ ap (λ (v : Val). ok_of Fault (v, rest)) (ap (λ (x : Value). bearing c.args.index (value_of x)) (sym c.in_ok-payload.ensures.ok) ∙ sym (seen_bearing c.args.index c.in_ok-payload.payload))

pub read_value-returns-in-Option : goal.read_value-returns-in-Option
read_value-returns-in-Option t c =
    let is : type_of c.args.ty.now ≡ cases option_type (option_cases (type_of c.deref-in-Option.result.now)) =
    ap type_of c.in-Option.is ∙ (seen_Option c.in-Option.some ∙ ap (λ (n : TypeNode). cases option_type (option_cases (type_of n))) (sym c.deref-in-Option.ensures)) in
    subst (λ (ty : Ty). Reads (value ty) value_of c.args.cursor.now c.read_option.new.cursor c.read_option.result) (sym is) c.read_option.ensures

pub read_value-returns-in-0 : goal.read_value-returns-in-0
read_value-returns-in-0 t c =
    let ok = shared_payload c.in-Result.ok in
    let error = shared_payload c.in-Result.error in
    let old = c.args.cursor.now.rest.now in
    let mid = c.read_either.new.cursor.rest.now in
    let name : (known result_names).reads old ≡ ok_of Fault (0, mid) = c.in_ok-read_either-in-Result.ensures.place ∙ ap (λ (n : ℕ). ok_of Fault (n, mid)) c.in-0.is in
    let e : (value (type_of c.args.ty.now)).reads old ≡ (case_value 0 ok).reads mid = ap (λ (ty : Ty). (value ty).reads old) (ap type_of c.in-Result.is ∙ seen_Result c.in-Result.ok c.in-Result.error) ∙ result_ok ok error old mid name in
    subst (λ (z : Result (Val × List ℕ) Fault). Gives (λ (x : Value). (value_of x, c.read_shared_case.new.cursor.rest.now)) c.read_shared_case.result z) (sym e) c.read_shared_case.ensures

pub read_value-returns-in_default : goal.read_value-returns-in_default
read_value-returns-in_default t c =
    let ok = shared_payload c.in-Result.ok in
    let error = shared_payload c.in-Result.error in
    let old = c.args.cursor.now.rest.now in
    let mid = c.read_either.new.cursor.rest.now in
    let one : c.in_ok-read_either-in-Result.field-0 ≡ 1 = omega (arith, c.in_ok-read_either-in-Result.ensures.within) in
    let name : (known result_names).reads old ≡ ok_of Fault (1, mid) = c.in_ok-read_either-in-Result.ensures.place ∙ ap (λ (n : ℕ). ok_of Fault (n, mid)) one in
    let e : (value (type_of c.args.ty.now)).reads old ≡ (case_value 1 error).reads mid = ap (λ (ty : Ty). (value ty).reads old) (ap type_of c.in-Result.is ∙ seen_Result c.in-Result.ok c.in-Result.error) ∙ result_error ok error old mid name in
    subst (λ (z : Result (Val × List ℕ) Fault). Gives (λ (x : Value). (value_of x, c.read_shared_case-in_default.new.cursor.rest.now)) c.read_shared_case-in_default.result z) (sym e) c.read_shared_case-in_default.ensures
