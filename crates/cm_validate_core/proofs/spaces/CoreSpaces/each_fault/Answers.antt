use Rattle.std.proofs.Common.{◌∙◌, ap, get_or}
use Rattle.cm_binary_model.specs.declared.canons.CanonOption.TheVariants as option
use Rattle.cm_validate_model.specs.Options.{option_broken}
use Rattle.cm_validate_model.specs.Reasons.{lesser}
use Rattle.cm_validate_core.proofs.spaces.CoreSpaces.each_fault.Goals as goal
use Rattle.cm_lemmas.proofs.Lists.{element_again}
use Rattle.cm_validate_model.proofs.ReasonsLaws.{read_end, read_on}

pub loop-option-preserved : goal.loop-option-preserved
loop-option-preserved c = λ made s r.
    let o = get_or c.args.options.now c.loop-option.option-index option.Utf8 in
    read_on c.least_of_both.ensures (option_broken s) c.args.options.now c.loop-option.option-index o c.loop-option.fault c.lesser-fault.result _
    c.loop-option-test.true (element_again c.args.options.now c.loop-option.option-index option.Utf8 o c.loop-option-test.true)
    (c.lesser-fault.ensures ∙ ap (lesser c.loop-option.fault) (c.option_fault.ensures made s r)) (c.loop-option.invariant made s r)

pub returns : goal.returns
returns c = λ made s r.
    read_end (option_broken s) c.args.options.now c.loop-option.option-index c.loop-option.fault _ c.loop-option-test.false (c.loop-option.invariant made s r)
