use Rattle.std.proofs.Common.{◌∙◌, ap}
use Rattle.cm_validate_model.specs.Reasons.{lesser}
use Rattle.cm_validate_model.specs.TypeRules.{payload_broken}
use Rattle.cm_validate_core.proofs.parts.cases_fault.Goals as goal
use Rattle.cm_validate_model.proofs.ReasonsLaws.{read_on}

pub loop-case-preserved : goal.loop-case-preserved
loop-case-preserved c =
    read_on c.least_of_both.ensures (λ k. payload_broken c.args.sorts.now k.payload) c.args.cases.now c.loop-case.case-index c.case-item.result c.loop-case.fault c.lesser-fault.result _
    c.loop-case-test.true c.case-item.is (c.lesser-fault.ensures ∙ ap (lesser c.loop-case.fault) c.payload_fault.ensures) c.loop-case.invariant
