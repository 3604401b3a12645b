use Rattle.cm_lemmas.proofs.Lists.{Shows}
use Rattle.cm_names.specs.Keys.{key_view}
use Rattle.cm_validate_functions.proofs.leading.import_names.Given as goal

abbrev pub invariant-loop-import : goal.invariant-loop-import
invariant-loop-import l = Shows (λ i. (0, i.name)) key_view l.imports l.import-index l.keys.items
