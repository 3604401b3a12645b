use Rattle.std.proofs.Common.{rules}
use Rattle.cm_types_arena.specs.Places.{types_of, funcs_of}
use Rattle.cm_wit_meanings.specs.Places.{scope_in}
use Rattle.cm_wit_signature.specs.PartViews.{own_func_view, scopes_in}
use Rattle.cm_wit_signature.proofs.OneLaws.{func_refused, func_made}
use Rattle.cm_wit_signature.proofs.externs.push_own_func.Goals as goal

pub returns-in_err-place-clause-fault : goal.returns-in_err-place-clause-fault
returns-in_err-place-clause-fault c =
    let old = types_of c.args.types.now in
    let h = func_refused (scope_in old c.scope-scope.result) (scopes_in old c.args.parts.now c.args.parts.now.own) (own_func_view c.args.own) c.in_err-place.field-0.0 (c.scope-scope.ensures.names old) c.in_err-place.ensures.fault in
    search (rules, h)

pub returns-clause-is : goal.returns-clause-is
returns-clause-is c =
    let old = types_of c.args.types.now in
    func_made (scope_in old c.scope-scope.result) (scopes_in old c.args.parts.now c.args.parts.now.own) (own_func_view c.args.own) c.in_ok-back.back (types_of c.push_func.new.types) (funcs_of c.push_func.new.types) c.at.result c.in_ok-place.place (c.scope-scope.ensures.names old) c.unmoved.ensures.funcs c.in_ok-back.ensures.cases c.at.ensures.place c.at.ensures.by c.in_ok-place.ensures.meaning
