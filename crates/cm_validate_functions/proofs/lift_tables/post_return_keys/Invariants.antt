use Rattle.cm_validate_functions.specs.Options.{first_in, post_return_in}
use Rattle.cm_validate_functions.specs.Tables.{number_key}
use Rattle.cm_lemmas.proofs.Lists.{Shows}
use Rattle.cm_names.specs.Keys.{key_view}
use Rattle.cm_validate_functions.proofs.lift_tables.post_return_keys.Given as goal

abbrev pub invariant-loop-lift : goal.invariant-loop-lift
invariant-loop-lift l = Shows (λ x. number_key (first_in post_return_in x.options.now)) key_view l.lifts l.lift-index l.keys.items
