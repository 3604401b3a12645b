use Rattle.std.proofs.Common.{◌≡◌, drop}
use Rattle.cm_validate_functions.specs.Options.{memory_in, first_in}
use Rattle.cm_validate_functions.proofs.options.memory.Given as goal

abbrev pub invariant-loop-option : goal.invariant-loop-option
invariant-loop-option l = first_in memory_in l.options ≡ first_in memory_in (drop l.option-index l.options)
