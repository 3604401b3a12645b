use Rattle.std.proofs.Common.{[]}
use Rattle.cm_lemmas.proofs.Lists.{Shows}
use Rattle.cm_names.specs.Keys.{key_view}
use Rattle.cm_validate_functions.proofs.lift_tables.lifted_keys.Given as goal

abbrev pub invariant-loop-lift : goal.invariant-loop-lift
invariant-loop-lift l = Shows (λ x. (x.core_func, [])) key_view l.lifts l.lift-index l.keys.items
