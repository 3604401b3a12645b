use Rattle.cm_validate_spaces.specs.Checked.{spaces_in}
use Rattle.cm_validate_functions.specs.Tables.{destructor_key}
use Rattle.cm_lemmas.proofs.Lists.{Shows}
use Rattle.cm_names.specs.Keys.{key_view}
use Rattle.cm_validate_functions.proofs.using.destructors.Given as goal

abbrev pub invariant-loop-number : goal.invariant-loop-number
invariant-loop-number l = Shows destructor_key key_view (spaces_in l.checked).resources l.number l.keys.items
