use Rattle.std.proofs.Common.{ap, nat_le, not, ◌∙◌}
use Rattle.cm_types.specs.declared.limits.TheConstants.{MAX_FLAT_PARAMS}
use Rattle.cm_types_arena.specs.Places.{funcs_of, types_of}
use Rattle.cm_types_arena.specs.TypeDefs.{func_at, params_type}
use Rattle.cm_validate_canons.specs.Passing.{widths_at}
use Rattle.cm_validate_canons.proofs.PassingLaws.{all_params, params_of}
use Rattle.cm_validate_canons.proofs.passing.params_passed.Goals as goal

pub returns : goal.returns
returns c =
    let types = types_of c.args.types.now in
    let f = func_at (funcs_of c.args.types.now) c.args.place in
    let ps = c.func_params.result.now in
    let wide = c.pass_more.ensures ∙ ap not (ap (λ ls. nat_le (widths_at ls ps) MAX_FLAT_PARAMS) c.requires.laid ∙ params_of types f ps MAX_FLAT_PARAMS c.func_params.ensures.params) in
    all_params c.params_summary-summary.result c.holds_pointer.result c.pass_more.result f c.params_summary-summary.ensures (c.holds_pointer.ensures (params_type f) c.params_summary-summary.ensures) wide
