use Rattle.cm_types_arena.specs.Places.{types_of}
use Rattle.cm_layout_placed.proofs.FirstLaws.{of_none}
use Rattle.cm_layout_placed.proofs.layouts.Layouts.of.Goals as goal

pub extend-requires : goal.extend-requires
extend-requires c = of_none (types_of c.args.types.now) c.new-layouts.ensures
