use Rattle.cm_abi_model.proofs.PassedLaws.{s8_example, scalar_pass, scalar_passed, signed_pass, signed_passed, u16_example, unsigned_pass, unsigned_passed}
use Rattle.cm_abi_model.proofs.standard_laws.numbers_are_lifted_flat.Goals as goal

pub returns-clause-unsigned : goal.returns-clause-unsigned
returns-clause-unsigned c = unsigned_passed

pub returns-clause-signed : goal.returns-clause-signed
returns-clause-signed c = signed_passed

pub returns-clause-chars : goal.returns-clause-chars
returns-clause-chars c = scalar_passed

pub returns-clause-unsigned_only : goal.returns-clause-unsigned_only
returns-clause-unsigned_only c = unsigned_pass

pub returns-clause-signed_only : goal.returns-clause-signed_only
returns-clause-signed_only c = signed_pass

pub returns-clause-chars_only : goal.returns-clause-chars_only
returns-clause-chars_only c = scalar_pass

pub returns-clause-u16_read : goal.returns-clause-u16_read
returns-clause-u16_read c = u16_example

pub returns-clause-s8_read : goal.returns-clause-s8_read
returns-clause-s8_read c = s8_example
