use Rattle.std.proofs.Common.{◌≡◌}
use Rattle.std.specs.List.{flat_map}
use Rattle.cm_validate_model.specs.Reasons.{least, lesser}
use Rattle.cm_validate_model.specs.TypeRules.{payload_broken}
use Rattle.cm_validate_core.proofs.parts.cases_fault.Given as goal
use Rattle.cm_validate_model.proofs.FaultLaws.{rest_fault}

-- the lesser of what was met and what is to come is the least of all
abbrev pub invariant-loop-case : goal.invariant-loop-case
invariant-loop-case l =
    lesser l.fault (rest_fault (λ c. payload_broken l.sorts c.payload) l.cases l.case-index)
    ≡ least (flat_map (λ c. payload_broken l.sorts c.payload) l.cases)
