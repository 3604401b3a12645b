use Rattle.cm_abi_model.proofs.FlagLaws.{labels_only, labels_read, labels_stored}
use Rattle.cm_abi_model.proofs.standard_laws.labels_are_bits.Goals as goal

pub returns-clause-read : goal.returns-clause-read
returns-clause-read c = labels_read c.sizes_of_numbers.ensures.flags

pub returns-clause-only : goal.returns-clause-only
returns-clause-only c = labels_only c.sizes_of_numbers.ensures.flags

pub returns-clause-stored : goal.returns-clause-stored
returns-clause-stored c = labels_stored c.sizes_of_numbers.ensures.flags
