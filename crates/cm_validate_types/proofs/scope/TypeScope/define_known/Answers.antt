use Rattle.std.proofs.Common.{◌≡◌, ◌++◌, List, sym, ap, ◌∙◌, option_to_list}
use Rattle.cm_types.specs.declared.def_types.ValType.{ValType}
use Rattle.cm_types.specs.DefTypes.{func_type_tree}
use Rattle.cm_types.specs.Types.{FuncTy}
use Rattle.cm_types_arena.specs.TypeDefs.{func_def_type, params_type}
use Rattle.cm_validate_model.specs.Definitions.{func_type}
use Rattle.cm_validate_model.specs.Reasons.{least}
use Rattle.cm_validate_model.specs.Scopes.{func_def_of}
use Rattle.cm_validate_model.specs.TypeRules.{limits_broken}
use Rattle.cm_validate_types.specs.Expansion.{func_or_bool}
use Rattle.cm_validate_types.specs.TypeScopes.{arena_types, own_types}
use Rattle.cm_validate_types.proofs.LimitLaws.{func_made}
use Rattle.cm_validate_types.proofs.SettledLaws.{func_settled, too_many_params}
use Rattle.cm_validate_types.proofs.StayLaws.{stays_on}
use Rattle.cm_validate_types.proofs.scope.TypeScope.define_known.Goals as goal

pub returns-then-not-are_within-clause-fault : goal.returns-then-not-are_within-clause-fault
returns-then-not-are_within-clause-fault c =
    too_many_params (own_types c.args.self.now) _ (func_type_tree c.args.def.now) (c.deref.ensures.value ∙ c.in_ok-params.ensures) (sym c.if-not-are_within.true ∙ c.are_within.ensures)

pub returns-clause-fault : goal.returns-clause-fault
returns-clause-fault c =
    let s = c.args.self.now in
    let f = func_type_tree c.args.def.now in
    let same = c.deref-2.ensures.value ∙ c.in_ok-uses.ensures ∙ ap (λ (us : List ValType). us ++ option_to_list f.result) c.in_ok-params.ensures in
    let made : func_def_type (arena_types c.settle_all.new.self) c.in_ok-placed.placed ≡ func_or_bool (own_types s) f =
    func_settled c.unmoved.ensures.types c.settle_all.new.self (own_types s) _ f _ same c.in_ok-settle_all.ensures.settled c.settle_all.ensures.own c.in_ok-placed.ensures.ty in
    let told : least (limits_broken (params_type (func_or_bool (own_types s) f))) ≡ least (limits_broken (params_type (func_def_type (arena_types c.settle_all.new.self) c.in_ok-placed.placed))) =
    ap (λ (g : FuncTy). least (limits_broken (params_type g))) (sym made) in
    rw told c.add_func.ensures.fault

pub returns-clause-defined : goal.returns-clause-defined
returns-clause-defined c =
    let s = c.args.self.now in
    let f = func_type_tree c.args.def.now in
    let same = c.deref-2.ensures.value ∙ c.in_ok-uses.ensures ∙ ap (λ (us : List ValType). us ++ option_to_list f.result) c.in_ok-params.ensures in
    let made : func_def_type (arena_types c.settle_all.new.self) c.in_ok-placed.placed ≡ func_or_bool (own_types s) f =
    func_settled c.unmoved.ensures.types c.settle_all.new.self (own_types s) _ f _ same c.in_ok-settle_all.ensures.settled c.settle_all.ensures.own c.in_ok-placed.ensures.ty in
    let told : func_def_of (own_types s) f ≡ func_type (func_def_type (arena_types c.settle_all.new.self) c.in_ok-placed.placed) = func_made (own_types s) f c.requires.uses ∙ ap func_type (sym made) in
    rw (told, sym c.settle_all.ensures.own) c.add_func.ensures.added

pub returns-clause-stays : goal.returns-clause-stays
returns-clause-stays c = stays_on c.args.self.now c.settle_all.new.self c.add_func.new.self c.settle_all.ensures.stays c.add_func.ensures.stays
