use Rattle.cm_abi_model.proofs.PassedLaws.{results_behind, results_flat, results_kinds, results_lowered, results_pass, results_spilled}
use Rattle.cm_abi_model.proofs.standard_laws.results_spill.Goals as goal

pub returns-clause-result_flat : goal.returns-clause-result_flat
returns-clause-result_flat c = results_flat

pub returns-clause-result_flat_only : goal.returns-clause-result_flat_only
returns-clause-result_flat_only c = results_pass

pub returns-clause-result_behind : goal.returns-clause-result_behind
returns-clause-result_behind c = results_spilled

pub returns-clause-result_behind_only : goal.returns-clause-result_behind_only
returns-clause-result_behind_only c = results_behind

pub returns-clause-result_kinds : goal.returns-clause-result_kinds
returns-clause-result_kinds c = results_kinds

pub returns-clause-result_lowered : goal.returns-clause-result_lowered
returns-clause-result_lowered c = results_lowered
