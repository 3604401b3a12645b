use Rattle.std.proofs.Common.{List, Ok, Err, map, refl, rules, subst}
use Rattle.cm_types_arena.specs.Places.{types_of}
use Rattle.cm_wit_reading.specs.declared.signatures.Typed as typed_code
use Rattle.cm_wit_reading.specs.SignatureViews.{typed_tree}
use Rattle.cm_wit_meanings.specs.Meanings.{each_meaning, typed_meaning}
use Rattle.cm_wit_meanings.specs.Places.{scope_in}
use Rattle.cm_wit_meanings.specs.PartsAdded.{AddedFields}
use Rattle.cm_wit_meanings.proofs.PartsAddedLaws.{answers_so, refused}
use Rattle.cm_wit_meanings.proofs.FuncLaws.{answer_refused, func_added, params_refused}
use Rattle.cm_wit_meanings.proofs.functions.func_def.Goals as goal
use Rattle.cm_wit_meanings.proofs.ScopeLaws.{scope_placed}

pub returns-in_err-params : goal.returns-in_err-params
returns-in_err-params c =
    let params = subst (λ (ts : List typed_code.Typed). AddedFields c.args.types.now c.push_fields.new.types (each_meaning (typed_meaning (scope_in (types_of c.args.types.now) c.args.scope.now)) (map typed_tree ts)) (Err c.in_err-params.field-0.0)) c.deref.ensures.value c.in_err-params.ensures in
    answers_so (search rules) (refused params (params_refused _ _ _))

pub push_result-requires : goal.push_result-requires
push_result-requires c = record { placed = scope_placed (types_of c.args.types.now) (types_of c.push_fields.new.types) c.args.scope.now c.in_ok-params.ensures.grown c.requires.placed }

pub returns-in_err-answer : goal.returns-in_err-answer
returns-in_err-answer c =
    let params = subst (λ (ts : List typed_code.Typed). AddedFields c.args.types.now c.push_fields.new.types (each_meaning (typed_meaning (scope_in (types_of c.args.types.now) c.args.scope.now)) (map typed_tree ts)) (Ok c.in_ok-params.params)) c.deref.ensures.value c.in_ok-params.ensures in
    answers_so (search rules) (answer_refused c.args.scope.now c.args.text.now c.args.types.now c.push_fields.new.types c.push_result.new.types c.requires.placed c.in_ok-params.params params c.in_err-answer.ensures.grown c.in_err-answer.ensures.funcs c.in_err-answer.field-0.0 c.in_err-answer.ensures.fault)

pub returns : goal.returns
returns c =
    let params = subst (λ (ts : List typed_code.Typed). AddedFields c.args.types.now c.push_fields.new.types (each_meaning (typed_meaning (scope_in (types_of c.args.types.now) c.args.scope.now)) (map typed_tree ts)) (Ok c.in_ok-params.params)) c.deref.ensures.value c.in_ok-params.ensures in
    func_added c.args.scope.now c.args.text.now c.args.types.now c.push_fields.new.types c.push_result.new.types c.requires.placed c.in_ok-params.params params c.in_ok-answer.ensures.grown c.in_ok-answer.ensures.funcs c.in_ok-answer.answer (record { params = c.in_ok-params.params; result = c.in_ok-answer.answer }) c.in_ok-answer.ensures.there c.in_ok-answer.ensures.meaning refl refl
