use Rattle.std.proofs.Common.{◌≡◌, drop}
use Rattle.cm_validate_functions.specs.Options.{post_return_in, first_in}
use Rattle.cm_validate_functions.proofs.options.post_return.Given as goal

abbrev pub invariant-loop-option : goal.invariant-loop-option
invariant-loop-option l = first_in post_return_in l.options ≡ first_in post_return_in (drop l.option-index l.options)
