use Rattle.std.proofs.Common.{◌∙◌, ap, sym}
use Rattle.std.specs.List.{flat_map}
use Rattle.cm_validate_model.specs.declared.fault.ValidReason.TheVariants as reason
use Rattle.cm_validate_model.specs.Options.{are_once, option_broken}
use Rattle.cm_validate_model.specs.Reasons.{least, lesser, unless}
use Rattle.cm_validate_core.proofs.spaces.CoreSpaces.options_fault.Goals as goal

pub returns : goal.returns
returns c = λ made s r.
    c.lesser.ensures
    ∙ ap (λ v. lesser v c.broken_unless-twice.result) (c.each_fault.ensures made s r)
    ∙ ap (lesser (least (flat_map (option_broken s) c.args.options.now))) (c.broken_unless-twice.ensures ∙ ap (λ b. least (unless b reason.OptionTwice)) c.are_once.ensures)
    ∙ sym (c.least_of_both.ensures (flat_map (option_broken s) c.args.options.now) (unless (are_once c.args.options.now) reason.OptionTwice))
