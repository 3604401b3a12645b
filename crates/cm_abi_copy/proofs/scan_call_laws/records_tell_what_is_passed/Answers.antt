use Rattle.cm_abi_copy.proofs.FlatTells.{passed_tells}
use Rattle.cm_abi_copy.proofs.TagLaws.{passed_tags}
use Rattle.cm_abi_copy.proofs.scan_call_laws.records_tell_what_is_passed.Goals as goal

pub returns-clause-tells : goal.returns-clause-tells
returns-clause-tells c = passed_tells (record {
  some = c.numbers_are_sized.ensures.aligned;
  text_told = c.parts_that_are_shown_are_told.ensures.text;
  elements_told = c.parts_that_are_shown_are_told.ensures.elements;
  told = c.records_tell_parts.ensures;
})

pub returns-clause-tags : goal.returns-clause-tags
returns-clause-tags c = λ w target way types slots v tagged denoted. passed_tags w target way types slots v tagged denoted
