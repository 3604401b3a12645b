-- The instances of a world, with what finds them.
use Rattle.std.specs.Prelude.{List, map}
use Rattle.cm_wit_tables.specs.Worlds.{Instance}
use Rattle.cm_wit_tables.specs.DeclaredViews.{instance_view}
use Rattle.cm_wit_tables.specs.declared.placing.Placing.{Placing}

abbrev pub instances_in : Placing → List Instance
instances_in p = map instance_view p.instances.now
