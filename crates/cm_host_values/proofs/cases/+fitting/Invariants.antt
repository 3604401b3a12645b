use Rattle.std.proofs.Common.{drop}
use Rattle.cm_abi_model.specs.Parts.{AllCasesFit}
use Rattle.cm_types.specs.ValueTrees.{values_of}
use Rattle.cm_host_values.proofs.cases.+fitting.Given as goal

-- where the numbers of the cases in those left are of 32 bits, so are those in all
abbrev pub invariant-cases_fit-loop-value : goal.invariant-cases_fit-loop-value
invariant-cases_fit-loop-value l = AllCasesFit (values_of (drop l.value-index l.values)) → AllCasesFit (values_of l.values)
