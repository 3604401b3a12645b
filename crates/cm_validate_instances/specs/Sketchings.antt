-- What the code has read of declarations.
use Rattle.std.specs.Prelude.{map}
use Rattle.cm_validate_instances.specs.ItemSketches.{sketch_named}
use Rattle.cm_validate_instances.specs.Levels.{sketches_of}
use Rattle.cm_validate_instances.specs.SketchScopes.{SketchScope}
use Rattle.cm_validate_instances.specs.declared.sketching.Sketching.{Sketching}

abbrev pub scope_sketched : Sketching → SketchScope
scope_sketched d =
    record {
      types = sketches_of d.own;
      next = d.next;
      items = map sketch_named d.items.items;
    }
