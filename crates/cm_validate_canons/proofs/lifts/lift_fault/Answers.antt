use Rattle.std.proofs.Common.{ap, ◌∙◌}
use Rattle.cm_types_arena.specs.Placed.{placed_func}
use Rattle.cm_validate_model.specs.Reasons.{lesser}
use Rattle.cm_validate_canons.specs.Types.{funcs_in, types_in}
use Rattle.cm_validate_canons.proofs.ReasonLaws.{typed, untyped}
use Rattle.cm_validate_canons.proofs.lifts.lift_fault.Goals as goal

pub returns-in-Err : goal.returns-in-Err
returns-in-Err c = λ made s r t.
    c.lesser-in-Err.ensures ∙ ap (λ v. lesser v c.options_fault-named.result) c.lesser.ensures
    ∙ untyped c.least_of_both.ensures s c.args.core_func c.args.ty c.args.options.now c.guest_fault-guest.result c.options_fault-named.result (c.guest_fault-guest.ensures made s r) (c.options_fault-named.ensures made s r)
    c.in-Err.reason (c.in-Err.ensures.broken (types_in c.args.types.now) (funcs_in c.args.types.now) s t)

pub returns-in-Ok : goal.returns-in-Ok
returns-in-Ok c = λ made s r t.
    let f = placed_func (funcs_in c.args.types.now) c.in-Ok.ty in
    c.lesser-in-Ok-2.ensures ∙ ap (λ v. lesser v c.lift_type_fault.result) c.lesser-in-Ok.ensures
    ∙ typed c.least_of_both.ensures s c.args.core_func c.args.ty c.args.options.now c.guest_fault-guest.result c.options_fault-named.result (c.guest_fault-guest.ensures made s r) (c.options_fault-named.ensures made s r)
    f c.lift_type_fault.result (c.in-Ok.ensures.ty (types_in c.args.types.now) (funcs_in c.args.types.now) s t)
    (c.lift_type_fault.ensures f (record { params_are = c.of-passing.ensures.params; result_is = c.of-passing.ensures.answer }))
