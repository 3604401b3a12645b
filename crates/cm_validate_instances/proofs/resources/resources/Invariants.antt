use Rattle.std.proofs.Common.{drop, map}
use Rattle.cm_validate_instances.specs.Names.{AreResources}
use Rattle.cm_validate_instances.specs.ItemSketches.{sketch_named}
use Rattle.cm_validate_instances.proofs.resources.resources.Given as goal

-- they are those of the last items, which are read from behind
abbrev pub invariant-loop-index : goal.invariant-loop-index
invariant-loop-index l = AreResources l.resources (map sketch_named (drop l.index l.items))
