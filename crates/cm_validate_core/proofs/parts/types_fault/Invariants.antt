use Rattle.std.proofs.Common.{◌≡◌}
use Rattle.std.specs.List.{flat_map}
use Rattle.cm_validate_model.specs.Reasons.{least, lesser}
use Rattle.cm_validate_model.specs.TypeRules.{value_broken}
use Rattle.cm_validate_core.proofs.parts.types_fault.Given as goal
use Rattle.cm_validate_model.proofs.FaultLaws.{rest_fault}

-- the lesser of what was met and what is to come is the least of all
abbrev pub invariant-loop-ty : goal.invariant-loop-ty
invariant-loop-ty l =
    lesser l.fault (rest_fault (value_broken l.sorts) l.types l.ty-index)
    ≡ least (flat_map (value_broken l.sorts) l.types)
