use Rattle.cm_types.specs.TypeTrees.{type_of}
use Rattle.cm_types.proofs.SpellableLemmas.{some_part}
use Rattle.cm_types.proofs.spellable.has_no_parts.Goals as goal

pub returns-in-len1-up : goal.returns-in-len1-up
returns-in-len1-up c = some_part type_of c.args.parts.now c.in-len1-up.len_at_least
