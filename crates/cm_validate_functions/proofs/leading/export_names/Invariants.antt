use Rattle.cm_lemmas.proofs.Lists.{Shows}
use Rattle.cm_names.specs.Keys.{key_view}
use Rattle.cm_validate_functions.proofs.leading.export_names.Given as goal

abbrev pub invariant-loop-export : goal.invariant-loop-export
invariant-loop-export l = Shows (λ e. (0, e.name.now)) key_view l.exports l.export-index l.keys.items
