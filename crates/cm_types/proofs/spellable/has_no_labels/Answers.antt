use Rattle.cm_types.proofs.SpellableLemmas.{some_label}
use Rattle.cm_types.proofs.spellable.has_no_labels.Goals as goal

pub returns-in-len1-up : goal.returns-in-len1-up
returns-in-len1-up c = some_label c.args.labels.now c.in-len1-up.len_at_least
