-- The sketches of an index space.
use Rattle.std.specs.Prelude.{List}
use Rattle.cm_validate_instances.specs.declared.level.SketchLevel.{SketchLevel}
use Rattle.cm_validate_instances.specs.declared.sketches.Sketch.{Sketch}

-- the sketches of a level, by index from 0
abbrev pub sketches_of : SketchLevel → List Sketch
sketches_of level = level.sketches.items
