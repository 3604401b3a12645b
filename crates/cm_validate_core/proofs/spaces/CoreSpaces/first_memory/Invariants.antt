use Rattle.std.proofs.Common.{◌≡◌, ℕ, drop}
use Rattle.cm_validate_model.specs.Definitions.{CoreFuncDef}
use Rattle.cm_validate_model.specs.Spaces.{Spaces, first_memory}
use Rattle.cm_validate_core.specs.CoreSpaces.{IsCoreOf}
use Rattle.cm_validate_core.proofs.spaces.CoreSpaces.first_memory.Given as goal

-- the first memory stands among those to come
abbrev pub invariant-loop-option : goal.invariant-loop-option
invariant-loop-option l =
    (made : ℕ → CoreFuncDef) (s : Spaces) → IsCoreOf made l.self s
    → first_memory s (drop l.option-index l.options) ≡ first_memory s l.options
