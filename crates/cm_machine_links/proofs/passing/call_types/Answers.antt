use Rattle.std.proofs.Common.{◌<◌, ◌≤◌, ◌+◌, List, length, take, sym, subst, arith, None, Global}
use Rattle.std.specs.declared.sync.Arc.{Arc}
use Rattle.std.proofs.lemmas.List.{take_all}
use Rattle.cm_types.specs.Types.{FuncTy, no_fields}
use Rattle.cm_types_arena.specs.Places.{funcs_of}
use Rattle.cm_types_arena.specs.TypeDefs.{func_at}
use Rattle.cm_machine_links.specs.Standing.{AreCallTypes, IsCallTypes}
use Rattle.cm_machine_parts.specs.declared.link.CallTypes.{CallTypes}
use Rattle.cm_machine_links.proofs.PassingFacts.{one_type_more}
use Rattle.cm_machine_links.proofs.passing.call_types.Goals as goal

pub loop-func-preserved : goal.loop-func-preserved
loop-func-preserved g c =
    let s = g.R.Replacement.replacement c.args.by.now in
    let fs : List FuncTy = funcs_of c.args.types.now in
    let i = c.loop-func.func in
    let lt : i < length fs = omega (arith, c.loop-func-test.true, c.func_count-func-end.ensures) in
    let t : Arc CallTypes Global = c.in_ok-new.field-0 in
    let is : IsCallTypes s (func_at fs i) t.value = subst (IsCallTypes s (func_at fs i)) (sym c.in_ok-new.ensures.ok) (c.in_ok-one.ensures.passes s c.in_ok-layouts.ensures) in
    subst (λ (l : List (Arc CallTypes Global)). AreCallTypes s (take (i + 1) fs) l) (sym c.in_ok-push.ensures.items)
    (one_type_more s fs i (record { params = no_fields; result = None }) c.loop-func.all.items t lt is c.in_ok-one.ensures.spelled c.loop-func.invariant)

pub returns : goal.returns
returns g c =
    let s = g.R.Replacement.replacement c.args.by.now in
    let fs : List FuncTy = funcs_of c.args.types.now in
    let le : length fs ≤ c.loop-func.func = omega (arith, c.loop-func-test.false, c.func_count-func-end.ensures) in
    subst (λ (l : List FuncTy). AreCallTypes s l c.loop-func.all.items) (take_all c.loop-func.func fs le) c.loop-func.invariant
