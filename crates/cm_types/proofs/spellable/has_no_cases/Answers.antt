use Rattle.cm_types.specs.TypeTrees.{case_of}
use Rattle.cm_types.proofs.SpellableLemmas.{some_case}
use Rattle.cm_types.proofs.spellable.has_no_cases.Goals as goal

pub returns-in-len1-up : goal.returns-in-len1-up
returns-in-len1-up c = some_case case_of c.args.cases.now c.in-len1-up.len_at_least
