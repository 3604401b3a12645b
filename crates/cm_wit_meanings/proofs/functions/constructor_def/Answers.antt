use Rattle.std.proofs.Common.{Ok, Err, refl, rules, Some}
use Rattle.cm_wit_meanings.proofs.PartsAddedLaws.{answers_so, behind, refused, type_added}
use Rattle.cm_wit_meanings.proofs.FuncLaws.{constructor_added, constructor_refused, constructor_unmade}
use Rattle.cm_wit_meanings.proofs.functions.constructor_def.Goals as goal

pub returns-in_err-params : goal.returns-in_err-params
returns-in_err-params c = answers_so (search rules) (refused c.in_err-params.ensures (constructor_refused _ c.args.resource _))

pub returns-in_err-place : goal.returns-in_err-place
returns-in_err-place c =
    let own = type_added c.push_fields.new.types c.push.new.types _ (Err c.in_err-place.field-0.0) tt tt c.in_err-place.ensures.fault c.in_err-place.ensures.grown c.in_err-place.ensures.funcs in
    answers_so (search rules) (refused (behind c.in_ok-params.ensures own) (constructor_unmade _ _ c.args.resource _ c.in_ok-params.ensures.meaning))

pub returns : goal.returns
returns c =
    constructor_added c.args.resource c.in_ok-params.params (record { params = c.in_ok-params.params; result = Some c.in_ok-place.place }) c.in_ok-params.ensures (type_added c.push_fields.new.types c.push.new.types _ (Ok c.in_ok-place.place) c.in_ok-place.ensures.there c.in_ok-place.ensures.ty tt c.in_ok-place.ensures.grown c.in_ok-place.ensures.funcs) refl refl
