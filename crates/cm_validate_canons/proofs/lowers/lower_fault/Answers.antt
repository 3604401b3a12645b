use Rattle.std.proofs.Common.{ap, ◌∙◌}
use Rattle.cm_validate_model.specs.Reasons.{lesser}
use Rattle.cm_validate_canons.proofs.ReasonLaws.{lower_is}
use Rattle.cm_validate_canons.proofs.lowers.lower_fault.Goals as goal

pub returns : goal.returns
returns c = λ made s r t.
    c.lesser-2.ensures ∙ ap (λ v. lesser v c.post_return_fault.result) c.lesser.ensures
    ∙ lower_is c.least_of_both.ensures s c.args.func c.args.options.now c.func_fault-lowered.result c.options_fault-named.result c.post_return_fault.result
    (c.func_fault-lowered.ensures s t) (c.options_fault-named.ensures made s r) c.post_return_fault.ensures
