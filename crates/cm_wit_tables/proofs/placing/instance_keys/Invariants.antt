use Rattle.std.proofs.Common.{map, []}
use Rattle.cm_names.specs.Keys.{key_view}
use Rattle.cm_wit_tables.specs.DeclaredViews.{instance_view}
use Rattle.cm_wit_tables.specs.InstanceKeys.{instance_key}
use Rattle.cm_wit_tables.proofs.placing.instance_keys.Given as goal
use Rattle.cm_lemmas.proofs.Lists.{Makes}

abbrev pub invariant-loop-instance : goal.invariant-loop-instance
invariant-loop-instance l = Makes instance_view (λ i. map instance_key) key_view l.instances l.instance-index [] l.keys.items
