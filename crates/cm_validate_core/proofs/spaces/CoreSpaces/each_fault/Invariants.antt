use Rattle.std.proofs.Common.{◌≡◌, ℕ}
use Rattle.std.specs.List.{flat_map}
use Rattle.cm_validate_model.specs.Definitions.{CoreFuncDef}
use Rattle.cm_validate_model.specs.Options.{option_broken}
use Rattle.cm_validate_model.specs.Reasons.{least, lesser}
use Rattle.cm_validate_model.specs.Spaces.{Spaces}
use Rattle.cm_validate_core.specs.CoreSpaces.{IsCoreOf}
use Rattle.cm_validate_core.proofs.spaces.CoreSpaces.each_fault.Given as goal
use Rattle.cm_validate_model.proofs.FaultLaws.{rest_fault}

-- the lesser of what was met and what is to come is the least of all
abbrev pub invariant-loop-option : goal.invariant-loop-option
invariant-loop-option l =
    (made : ℕ → CoreFuncDef) (s : Spaces) → IsCoreOf made l.self s
    → lesser l.fault (rest_fault (option_broken s) l.options l.option-index)
    ≡ least (flat_map (option_broken s) l.options)
