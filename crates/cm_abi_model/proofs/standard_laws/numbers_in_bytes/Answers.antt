use Rattle.cm_abi_model.proofs.NumberLaws.{number_stands, stands_number, held_stands, signed_read, signed_stored}
use Rattle.cm_abi_model.proofs.BitLaws.{bits_kept}
use Rattle.cm_abi_model.proofs.standard_laws.numbers_in_bytes.Goals as goal

pub returns-clause-read : goal.returns-clause-read
returns-clause-read c = number_stands

pub returns-clause-only_one : goal.returns-clause-only_one
returns-clause-only_one c = stands_number

pub returns-clause-stored : goal.returns-clause-stored
returns-clause-stored c = held_stands

pub returns-clause-signed_read : goal.returns-clause-signed_read
returns-clause-signed_read c = signed_read

pub returns-clause-signed_stored : goal.returns-clause-signed_stored
returns-clause-signed_stored c = signed_stored

pub returns-clause-bits : goal.returns-clause-bits
returns-clause-bits c = bits_kept
