use Rattle.std.proofs.Common.{ap, ◌∙◌}
use Rattle.cm_types_arena.specs.Places.{types_of}
use Rattle.cm_types_arena.specs.TypeDefs.{type_at}
use Rattle.cm_types_arena.specs.Placed.{moved_by}
use Rattle.cm_validate_instances.specs.Sketches.{value_replaced}
use Rattle.cm_validate_instances.proofs.MoveLaws.{value_told}
use Rattle.cm_validate_instances.proofs.entries.sketch_placed.Goals as goal

pub returns : goal.returns
returns c =
    let p = c.args.placed in
    c.moved.ensures ∙ ap (value_replaced (moved_by p.by)) c.sketch_value.ensures
    ∙ value_told (moved_by p.by) (c.what_stays.ensures.borrows (moved_by p.by)) (type_at (types_of c.args.types.now) p.place)
