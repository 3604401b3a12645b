use Rattle.std.proofs.Common.{◌≡◌, sym, ap, ◌∙◌}
use Rattle.cm_types.specs.DefTypes.{func_type_tree}
use Rattle.cm_types_arena.specs.Places.{funcs_of}
use Rattle.cm_types_arena.specs.TypeDefs.{params_type}
use Rattle.cm_validate_model.specs.Reasons.{least, lesser}
use Rattle.cm_validate_model.specs.TypeRules.{func_def_broken, limits_broken, params_broken}
use Rattle.cm_validate_types.specs.Expansion.{func_or_bool}
use Rattle.cm_validate_types.specs.TypeScopes.{own_types}
use Rattle.cm_validate_types.proofs.LimitLaws.{borrow_broken, func_early, func_last}
use Rattle.cm_validate_types.proofs.ScopeLaws.{result_within}
use Rattle.cm_validate_types.proofs.scope.TypeScope.define_used.Goals as goal

pub returns-in-Some-clause-fault : goal.returns-in-Some-clause-fault
returns-in-Some-clause-fault c =
    let s = c.args.self.now in
    let f = func_type_tree c.args.def.now in
    let told : c.lesser.result ≡ lesser (least (params_broken f)) (least (borrow_broken (func_or_bool (own_types s) f).result)) =
    c.lesser.ensures ∙ ap (λ v. lesser v c.borrow_fault.result) c.in_ok-twice.ensures ∙ ap (lesser (least (params_broken f))) c.borrow_fault.ensures in
    sym (func_early (own_types s) f c.in-Some.fault c.requires.uses (result_within c.what_stays.ensures.nodes c.what_stays.ensures.depth s.types.entries.items s.types.arena (funcs_of s.types) s.own.entries.items c.args.def.now.result) (sym told ∙ c.in-Some.is))

pub returns-in-None-clause-fault : goal.returns-in-None-clause-fault
returns-in-None-clause-fault c =
    let s = c.args.self.now in
    let f = func_type_tree c.args.def.now in
    let told : c.lesser.result ≡ lesser (least (params_broken f)) (least (borrow_broken (func_or_bool (own_types s) f).result)) =
    c.lesser.ensures ∙ ap (λ v. lesser v c.borrow_fault.result) c.in_ok-twice.ensures ∙ ap (lesser (least (params_broken f))) c.borrow_fault.ensures in
    let left : least (func_def_broken (own_types s) f) ≡ least (limits_broken (params_type (func_or_bool (own_types s) f))) =
    func_last (own_types s) f c.requires.uses (result_within c.what_stays.ensures.nodes c.what_stays.ensures.depth s.types.entries.items s.types.arena (funcs_of s.types) s.own.entries.items c.args.def.now.result) (sym told ∙ c.in-None.is) in
    rw left c.define_known.ensures.fault
