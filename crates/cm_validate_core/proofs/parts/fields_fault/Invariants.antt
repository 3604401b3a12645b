use Rattle.std.proofs.Common.{◌≡◌}
use Rattle.std.specs.List.{flat_map}
use Rattle.cm_validate_model.specs.Reasons.{least, lesser}
use Rattle.cm_validate_model.specs.TypeRules.{value_broken}
use Rattle.cm_validate_core.proofs.parts.fields_fault.Given as goal
use Rattle.cm_validate_model.proofs.FaultLaws.{rest_fault}

-- the lesser of what was met and what is to come is the least of all
abbrev pub invariant-loop-field : goal.invariant-loop-field
invariant-loop-field l =
    lesser l.fault (rest_fault (λ f. value_broken l.sorts f.ty) l.fields l.field-index)
    ≡ least (flat_map (λ f. value_broken l.sorts f.ty) l.fields)
