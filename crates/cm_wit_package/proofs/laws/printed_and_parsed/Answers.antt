use Rattle.cm_wit_package.specs.Printed.{file_text}
use Rattle.cm_wit_package.proofs.PrintedLaws.{parsed_is}
use Rattle.cm_wit_package.proofs.laws.printed_and_parsed.Goals as goal

pub returns-clause-printed : goal.returns-clause-printed
returns-clause-printed c = λ p text h. (c.printed_file_is_read.ensures.read p text h.0, h.1)

pub returns-clause-parsed : goal.returns-clause-parsed
returns-clause-parsed c = λ p text h result r. parsed_is (file_text p) p result (c.printed_file_is_read.ensures.read p text h.0, h.1) r
