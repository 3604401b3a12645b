use Rattle.cm_types.specs.TypeTrees.{field_of}
use Rattle.cm_types.proofs.SpellableLemmas.{some_field}
use Rattle.cm_types.proofs.spellable.has_no_fields.Goals as goal

pub returns-in-len1-up : goal.returns-in-len1-up
returns-in-len1-up c = some_field field_of c.args.fields.now c.in-len1-up.len_at_least
