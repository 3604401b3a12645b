use Rattle.cm_abi_model.proofs.PassedLaws.{narrow_passed, s8_lowered, wide_passed}
use Rattle.cm_abi_model.proofs.standard_laws.signed_numbers_are_lowered_flat.Goals as goal

pub returns-clause-narrow : goal.returns-clause-narrow
returns-clause-narrow c = narrow_passed

pub returns-clause-wide : goal.returns-clause-wide
returns-clause-wide c = wide_passed

pub returns-clause-s8_passed : goal.returns-clause-s8_passed
returns-clause-s8_passed c = s8_lowered
