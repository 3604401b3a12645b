use Rattle.cm_validate_spaces.specs.Checked.{spaces_in}
use Rattle.cm_validate_functions.specs.Tables.{import_key}
use Rattle.cm_lemmas.proofs.Lists.{Shows}
use Rattle.cm_names.specs.Keys.{key_view}
use Rattle.cm_validate_functions.proofs.leading.lowered_imports.Given as goal

abbrev pub invariant-loop-index : goal.invariant-loop-index
invariant-loop-index l = Shows import_key key_view (spaces_in l.checked).core_funcs l.index l.keys.items
