use Rattle.cm_abi_model.proofs.PassedLaws.{params_behind, params_flat, params_kinds, params_lowered, params_pass, params_spilled}
use Rattle.cm_abi_model.proofs.standard_laws.parameters_spill.Goals as goal

pub returns-clause-params_flat : goal.returns-clause-params_flat
returns-clause-params_flat c = params_flat

pub returns-clause-params_flat_only : goal.returns-clause-params_flat_only
returns-clause-params_flat_only c = params_pass

pub returns-clause-params_behind : goal.returns-clause-params_behind
returns-clause-params_behind c = params_spilled

pub returns-clause-params_behind_only : goal.returns-clause-params_behind_only
returns-clause-params_behind_only c = params_behind

pub returns-clause-params_kinds : goal.returns-clause-params_kinds
returns-clause-params_kinds c = params_kinds

pub returns-clause-params_lowered : goal.returns-clause-params_lowered
returns-clause-params_lowered c = params_lowered
