use Rattle.cm_abi.proofs.TellingLaws.{OneText, parts_alike, places_alike, told_of_no_other, told_reads}
use Rattle.cm_abi_model.specs.Texts.{latin1, utf8, utf16}
use Rattle.cm_abi.proofs.fitting_laws.records_tell_the_memory.Goals as goal

-- the law of each charset
one_text : goal.After-one_list_of_scalars-3 → OneText
one_text c utf8 = c.one_list_of_scalars.ensures
one_text c utf16 = c.one_list_of_scalars-2.ensures
one_text c latin1 = c.one_list_of_scalars-3.ensures

pub returns-clause-shown : goal.returns-clause-shown
returns-clause-shown c = told_reads

pub returns-clause-other : goal.returns-clause-other
returns-clause-other c = told_of_no_other

pub returns-clause-parts : goal.returns-clause-parts
returns-clause-parts c = parts_alike (one_text c)

pub returns-clause-places : goal.returns-clause-places
returns-clause-places c = places_alike
