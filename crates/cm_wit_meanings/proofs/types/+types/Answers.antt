use Rattle.std.proofs.Common.{ap, arith, None, refl, rules, sym}
use Rattle.cm_types.specs.Types.{fixed_list, list}
use Rattle.cm_types_arena.specs.Places.{types_of}
use Rattle.cm_wit_reading.specs.declared.types.WitType.{the_lemmas}
use Rattle.cm_wit_reading.specs.TypeViews.{payload_tree}
use Rattle.cm_wit_meanings.specs.Meanings.{option_of, payload_meaning, tuple_of}
use Rattle.cm_wit_meanings.specs.Places.{scope_in}
use Rattle.cm_wit_meanings.proofs.AddedLaws.{answers_so, behind, both_made, made, meant_so, payload_added, refused, stands, still_there}
use Rattle.cm_wit_meanings.proofs.FaultLaws.{error_fault, fixed_fault, list_fault, made_fault, ok_fault, option_fault, some_fault}
use Rattle.cm_wit_meanings.proofs.ScopeLaws.{scope_kept, scope_placed}
use Rattle.cm_wit_meanings.proofs.TypeLaws.{fixed_means, list_means, option_means, part_added, part_lost, part_refused, parts_added, payload_means, result_means, tuple_means, types_none, types_placed}
use Rattle.cm_wit_meanings.proofs.types.+types.Goals as goal

-- ---- List

pub push_text-returns-in_err-element-in-List : goal.push_text-returns-in_err-element-in-List
push_text-returns-in_err-element-in-List t c =
    answers_so (search rules) (meant_so (list_means (scope_in (types_of c.args.types.now) c.args.scope.now) c.args.text.now c.deref.result.now c.in-List.element c.deref.ensures c.in-List.is) (refused c.in_err-element-in-List.ensures (list_fault _ _)))

pub push_text-add-requires : goal.push_text-add-requires
push_text-add-requires t c =
    record { parts = c.in_ok-element-in-List.ensures.there }

pub push_text-returns-in_ok-element-in-List : goal.push_text-returns-in_ok-element-in-List
push_text-returns-in_ok-element-in-List t c =
    meant_so (list_means (scope_in (types_of c.args.types.now) c.args.scope.now) c.args.text.now c.deref.result.now c.in-List.element c.deref.ensures c.in-List.is) (made list c.in_ok-element-in-List.ensures c.add.ensures)

-- ---- FixedList

pub push_text-returns-in_err-element-in-FixedList : goal.push_text-returns-in_err-element-in-FixedList
push_text-returns-in_err-element-in-FixedList t c =
    answers_so (search rules) (meant_so (fixed_means (scope_in (types_of c.args.types.now) c.args.scope.now) c.args.text.now c.deref-in-FixedList.result.now c.in-FixedList.element c.deref-in-FixedList.ensures c.in-FixedList.length c.in-FixedList.is) (refused c.in_err-element-in-FixedList.ensures (fixed_fault c.in-FixedList.length _ _)))

pub push_text-add-requires-in-FixedList : goal.push_text-add-requires-in-FixedList
push_text-add-requires-in-FixedList t c =
    record { parts = c.in_ok-element-in-FixedList.ensures.there }

pub push_text-returns-in_ok-element-in-FixedList : goal.push_text-returns-in_ok-element-in-FixedList
push_text-returns-in_ok-element-in-FixedList t c =
    meant_so (fixed_means (scope_in (types_of c.args.types.now) c.args.scope.now) c.args.text.now c.deref-in-FixedList.result.now c.in-FixedList.element c.deref-in-FixedList.ensures c.in-FixedList.length c.in-FixedList.is) (made (λ x. fixed_list x c.in-FixedList.length) c.in_ok-element-in-FixedList.ensures c.add-in-FixedList.ensures)

-- ---- Option

pub push_text-returns-in_err-payload-in-Option : goal.push_text-returns-in_err-payload-in-Option
push_text-returns-in_err-payload-in-Option t c =
    answers_so (search rules) (meant_so (option_means (scope_in (types_of c.args.types.now) c.args.scope.now) c.args.text.now c.deref-in-Option.result.now c.in-Option.payload c.deref-in-Option.ensures c.in-Option.is) (refused c.in_err-payload-in-Option.ensures (option_fault _ _)))

pub push_text-add-requires-in-Option : goal.push_text-add-requires-in-Option
push_text-add-requires-in-Option t c =
    record { parts = c.in_ok-payload-in-Option.ensures.there }

pub push_text-returns-in_ok-payload-in-Option : goal.push_text-returns-in_ok-payload-in-Option
push_text-returns-in_ok-payload-in-Option t c =
    meant_so (option_means (scope_in (types_of c.args.types.now) c.args.scope.now) c.args.text.now c.deref-in-Option.result.now c.in-Option.payload c.deref-in-Option.ensures c.in-Option.is) (made option_of c.in_ok-payload-in-Option.ensures c.add-in-Option.ensures)

-- ---- Tuple

pub push_text-returns-in_err-parts-in-Tuple : goal.push_text-returns-in_err-parts-in-Tuple
push_text-returns-in_err-parts-in-Tuple t c =
    answers_so (search rules) (meant_so (tuple_means (scope_in (types_of c.args.types.now) c.args.scope.now) c.args.text.now c.in-Tuple.parts c.deref-in-Tuple.result.now c.in-Tuple.is c.deref-in-Tuple.ensures.value) (refused c.in_err-parts-in-Tuple.ensures (made_fault tuple_of _ _)))

pub push_text-add-requires-in-Tuple : goal.push_text-add-requires-in-Tuple
push_text-add-requires-in-Tuple t c =
    record { parts = c.in_ok-parts-in-Tuple.ensures.there }

pub push_text-returns-in_ok-parts-in-Tuple : goal.push_text-returns-in_ok-parts-in-Tuple
push_text-returns-in_ok-parts-in-Tuple t c =
    meant_so (tuple_means (scope_in (types_of c.args.types.now) c.args.scope.now) c.args.text.now c.in-Tuple.parts c.deref-in-Tuple.result.now c.in-Tuple.is c.deref-in-Tuple.ensures.value) (made tuple_of c.in_ok-parts-in-Tuple.ensures c.add-in-Tuple.ensures)

-- ---- Result

pub push_text-returns-in_err-ok-in-Result : goal.push_text-returns-in_err-ok-in-Result
push_text-returns-in_err-ok-in-Result t c =
    answers_so (search rules) (meant_so (result_means (scope_in (types_of c.args.types.now) c.args.scope.now) c.args.text.now c.in-Result.ok c.in-Result.error c.in-Result.is) (refused c.in_err-ok-in-Result.ensures (ok_fault _ _ _)))

pub push_text-push_payload-requires-in-Result : goal.push_text-push_payload-requires-in-Result
push_text-push_payload-requires-in-Result t c =
    (search (rules, the_lemmas), scope_placed (types_of c.args.types.now) (types_of c.push_payload.new.types) c.args.scope.now c.in_ok-ok-in-Result.ensures.grown c.requires.placed)

pub push_text-returns-in_err-error-in-Result : goal.push_text-returns-in_err-error-in-Result
push_text-returns-in_err-error-in-Result t c =
    let error = meant_so (ap (λ s. payload_meaning s (payload_tree c.in-Result.error)) (sym (scope_kept (types_of c.args.types.now) (types_of c.push_payload.new.types) c.args.scope.now c.in_ok-ok-in-Result.ensures.grown c.requires.placed))) c.in_err-error-in-Result.ensures in
    answers_so (search rules) (meant_so (result_means (scope_in (types_of c.args.types.now) c.args.scope.now) c.args.text.now c.in-Result.ok c.in-Result.error c.in-Result.is) (refused (behind c.in_ok-ok-in-Result.ensures error) (error_fault _ _ _ _ c.in_ok-ok-in-Result.ensures.meaning)))

pub push_text-add-requires-in-Result : goal.push_text-add-requires-in-Result
push_text-add-requires-in-Result t c =
    record { parts = (still_there c.in_ok-ok-in-Result.ok c.in_ok-error-in-Result.ensures c.in_ok-ok-in-Result.ensures.there, c.in_ok-error-in-Result.ensures.there) }

pub push_text-returns-in_ok-error-in-Result : goal.push_text-returns-in_ok-error-in-Result
push_text-returns-in_ok-error-in-Result t c =
    let error = meant_so (ap (λ s. payload_meaning s (payload_tree c.in-Result.error)) (sym (scope_kept (types_of c.args.types.now) (types_of c.push_payload.new.types) c.args.scope.now c.in_ok-ok-in-Result.ensures.grown c.requires.placed))) c.in_ok-error-in-Result.ensures in
    meant_so (result_means (scope_in (types_of c.args.types.now) c.args.scope.now) c.args.text.now c.in-Result.ok c.in-Result.error c.in-Result.is) (both_made c.in_ok-ok-in-Result.ensures error c.add-in-Result.ensures)

-- ---- payloads

pub push_payload-returns-in_err-push_text-in-Some : goal.push_payload-returns-in_err-push_text-in-Some
push_payload-returns-in_err-push_text-in-Some t c =
    answers_so (search rules) (meant_so (payload_means (scope_in (types_of c.args.types.now) c.args.scope.now) c.args.text.now c.deref.result.now c.in-Some.text c.deref.ensures c.in-Some.is) (refused c.in_err-push_text-in-Some.ensures (some_fault _ _)))

pub push_payload-returns-in_ok-push_text-in-Some : goal.push_payload-returns-in_ok-push_text-in-Some
push_payload-returns-in_ok-push_text-in-Some t c =
    meant_so (payload_means (scope_in (types_of c.args.types.now) c.args.scope.now) c.args.text.now c.deref.result.now c.in-Some.text c.deref.ensures c.in-Some.is) (payload_added c.in_ok-push_text-in-Some.ensures)

pub push_payload-returns-in-None : goal.push_payload-returns-in-None
push_payload-returns-in-None t c =
    stands _ _ _ c.args.types.now _ None tt (ap (λ x. payload_meaning (scope_in (types_of c.args.types.now) c.args.scope.now) (payload_tree x)) c.in-None.is)

-- ---- parts

pub push_parts-loop-text-init : goal.push_parts-loop-text-init
push_parts-loop-text-init t c =
    types_none c.args.scope.now c.args.texts.now c.args.types.now c.in_ok-places.places.items (search rules)

pub push_parts-push_text-requires : goal.push_parts-push_text-requires
push_parts-push_text-requires t c =
    (search (rules, the_lemmas), types_placed c.args.scope.now c.args.texts.now c.args.types.now c.loop-text.types c.requires.placed c.loop-text.text-index c.loop-text.places.items c.loop-text.invariant)

pub push_parts-returns-in_err-place : goal.push_parts-returns-in_err-place
push_parts-returns-in_err-place t c =
    answers_so (search rules) (part_refused c.args.scope.now c.args.texts.now c.args.types.now c.loop-text.types c.requires.placed c.loop-text.text-index c.loop-text.places.items c.loop-text.invariant c.push_text.new.types c.text-item.result (omega arith) c.text-item.is _ c.in_err-place.ensures)

pub push_parts-returns-then-is_err : goal.push_parts-returns-then-is_err
push_parts-returns-then-is_err t c =
    part_lost c.args.scope.now c.args.texts.now c.args.types.now c.loop-text.types c.requires.placed c.loop-text.text-index c.loop-text.places.items c.loop-text.invariant c.push_text.new.types c.text-item.result (omega arith) c.text-item.is _ c.in_ok-place.ensures

pub push_parts-loop-text-preserved : goal.push_parts-loop-text-preserved
push_parts-loop-text-preserved t c =
    part_added c.args.scope.now c.args.texts.now c.args.types.now c.loop-text.types c.requires.placed c.loop-text.text-index c.loop-text.places.items c.loop-text.invariant c.push_text.new.types c.text-item.result (omega arith) c.text-item.is _ c.push.new.self.items c.in_ok-place.ensures (search rules)

pub push_parts-returns : goal.push_parts-returns
push_parts-returns t c =
    parts_added c.args.scope.now c.args.texts.now c.args.types.now c.loop-text.types c.requires.placed c.loop-text.text-index c.loop-text.places.items c.loop-text.invariant c.loop-text.places refl (omega arith)
