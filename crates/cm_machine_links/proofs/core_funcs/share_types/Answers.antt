use Rattle.std.proofs.Common.{◌≡◌, List, sym, subst, arith, None, Global, Result, Ok, Err, IfOk, OnOk, MatchResult}
use Rattle.std.specs.declared.alloc.AllocError.{AllocError}
use Rattle.std.specs.declared.sync.Arc.{Arc}
use Rattle.cm_types.specs.Types.{FuncTy, no_fields}
use Rattle.cm_types_arena.specs.TypeDefs.{func_at}
use Rattle.cm_match.specs.Linked.{components_in, set_in}
use Rattle.cm_match_model.specs.Serving.{standing}
use Rattle.cm_match_serving.specs.Sets.{funcs_at}
use Rattle.cm_machine_links.specs.Standing.{IsCallTypes, IsSpelled}
use Rattle.cm_machine_parts.specs.declared.link.CallTypes.{CallTypes}
use Rattle.cm_machine_links.proofs.TypesAt.{place_there, row_of, rows_there, types_at}
use Rattle.cm_machine_links.proofs.core_funcs.share_types.Goals as goal

pub bounds-types-component : goal.bounds-types-component
bounds-types-component c = rows_there (set_in c.args.linked.now) (components_in c.args.linked.now) c.args.types.now c.args.component c.args.place c.requires.known c.requires.there

pub index-requires : goal.index-requires
index-requires c =
    let set = set_in c.args.linked.now in
    let cs = components_in c.args.linked.now in
    let v = c.index-types-component.result in
    omega (arith, v.ok.0, place_there (standing set c.args.component) (funcs_at cs c.args.component) v.items c.args.place (row_of set cs c.args.types.now c.args.component c.args.place v c.requires.known c.requires.there c.index-types-component.is) c.requires.there)

-- what is shared is the same
same_value : (r : Result (Arc CallTypes Global) AllocError) (v : CallTypes) (P : CallTypes → Type 0) → MatchResult r (λ copy. copy.value ≡ v) (λ x. ¬ ⊥) → P v → IfOk r (λ t. P t.value)
same_value (Ok t) v P h p = subst P (sym h) p
same_value (Err e) v P h p = tt

whenever_ok : (r : Result (Arc CallTypes Global) AllocError) (P : Type 0) → P → OnOk r P
whenever_ok (Ok t) P p = p
whenever_ok (Err e) P p = tt

pub returns-clause-passes : goal.returns-clause-passes
returns-clause-passes c =
    let set = set_in c.args.linked.now in
    let cs = components_in c.args.linked.now in
    let s = standing set c.args.component in
    let fs : List FuncTy = funcs_at cs c.args.component in
    let v = c.index-types-component.result in
    let t : Arc CallTypes Global = c.index.result.now in
    let row = row_of set cs c.args.types.now c.args.component c.args.place v c.requires.known c.requires.there c.index-types-component.is in
    let is : IsCallTypes s (func_at fs c.args.place) t.value =
    subst (λ (u : Arc CallTypes Global). IsCallTypes s (func_at fs c.args.place) u.value) (sym c.index.ensures) (types_at s fs v.items c.args.place (record { params = no_fields; result = None }) t row c.requires.there).0 in
    same_value c.clone.result t.value (IsCallTypes s (func_at fs c.args.place)) c.clone.ensures.cases is

pub returns-clause-spelled : goal.returns-clause-spelled
returns-clause-spelled c =
    let set = set_in c.args.linked.now in
    let cs = components_in c.args.linked.now in
    let s = standing set c.args.component in
    let fs : List FuncTy = funcs_at cs c.args.component in
    let v = c.index-types-component.result in
    let t : Arc CallTypes Global = c.index.result.now in
    let row = row_of set cs c.args.types.now c.args.component c.args.place v c.requires.known c.requires.there c.index-types-component.is in
    whenever_ok c.clone.result (IsSpelled (func_at fs c.args.place)) (types_at s fs v.items c.args.place (record { params = no_fields; result = None }) t row c.requires.there).1
