use Rattle.std.proofs.Common.{◌∙◌, sym, get_or}
use Rattle.cm_binary_model.specs.declared.canons.CanonOption.TheVariants as option
use Rattle.cm_validate_core.proofs.CanonLaws.{memory_here, memory_later, memory_none}
use Rattle.cm_validate_core.proofs.spaces.CoreSpaces.first_memory.Goals as goal
use Rattle.cm_lemmas.proofs.Lists.{element_again}

pub returns-then-is_some-clause-memory : goal.returns-then-is_some-clause-memory
returns-then-is_some-clause-memory c = λ made s r.
    let o = get_or c.args.options.now c.loop-option.option-index option.Utf8 in
    memory_here s c.args.options.now c.loop-option.option-index o c.option_memory-memory.result c.loop-option-test.true (element_again c.args.options.now c.loop-option.option-index option.Utf8 o c.loop-option-test.true)
    (c.option_memory-memory.ensures.memory made s r) (sym c.is_some.ensures ∙ c.if-is_some.true) (c.loop-option.invariant made s r)

pub loop-option-preserved : goal.loop-option-preserved
loop-option-preserved c = λ made s r.
    let o = get_or c.args.options.now c.loop-option.option-index option.Utf8 in
    memory_later s c.args.options.now c.loop-option.option-index o c.option_memory-memory.result c.loop-option-test.true (element_again c.args.options.now c.loop-option.option-index option.Utf8 o c.loop-option-test.true)
    (c.option_memory-memory.ensures.memory made s r) (sym c.is_some.ensures ∙ c.if-is_some.false) (c.loop-option.invariant made s r)

pub returns-clause-memory : goal.returns-clause-memory
returns-clause-memory c = λ made s r. memory_none s c.args.options.now c.loop-option.option-index c.loop-option-test.false (c.loop-option.invariant made s r)
