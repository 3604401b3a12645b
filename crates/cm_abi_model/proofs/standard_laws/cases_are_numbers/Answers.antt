use Rattle.cm_abi_model.proofs.FieldLaws.{bare_only, bare_read, bearing_only, bearing_read, option_example}
use Rattle.cm_abi_model.proofs.PlaceLaws.{greatest_alignment}
use Rattle.cm_abi_model.proofs.standard_laws.cases_are_numbers.Goals as goal

pub returns-clause-there : goal.returns-clause-there
returns-clause-there c = greatest_alignment

pub returns-clause-bare_read : goal.returns-clause-bare_read
returns-clause-bare_read c = bare_read c.sizes_of_numbers.ensures.discriminants

pub returns-clause-bare_only : goal.returns-clause-bare_only
returns-clause-bare_only c = bare_only c.sizes_of_numbers.ensures.discriminants

pub returns-clause-bearing_read : goal.returns-clause-bearing_read
returns-clause-bearing_read c = bearing_read c.sizes_of_numbers.ensures.discriminants

pub returns-clause-bearing_only : goal.returns-clause-bearing_only
returns-clause-bearing_only c = bearing_only c.sizes_of_numbers.ensures.discriminants

pub returns-clause-example : goal.returns-clause-example
returns-clause-example c = option_example
