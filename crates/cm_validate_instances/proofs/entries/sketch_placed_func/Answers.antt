use Rattle.std.proofs.Common.{ap, ◌∙◌}
use Rattle.cm_types_arena.specs.Places.{funcs_of}
use Rattle.cm_types_arena.specs.TypeDefs.{func_at}
use Rattle.cm_types_arena.specs.Placed.{moved_by}
use Rattle.cm_validate_instances.specs.Sketches.{func_replaced, sketch_func}
use Rattle.cm_validate_instances.proofs.MoveLaws.{func_told}
use Rattle.cm_validate_instances.proofs.entries.sketch_placed_func.Goals as goal

pub returns : goal.returns
returns c =
    let p = c.args.placed in
    c.moved.ensures ∙ ap (func_replaced (moved_by p.by)) (c.sketch_func.ensures ∙ ap sketch_func c.func.ensures)
    ∙ func_told (moved_by p.by) (func_at (funcs_of c.args.types.now) p.place)
