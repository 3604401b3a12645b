use Rattle.std.proofs.Common.{ap, ◌∙◌}
use Rattle.std.specs.Option.{option_map}
use Rattle.cm_types.specs.Funcs.{func_of}
use Rattle.cm_types_arena.specs.Places.{funcs_of}
use Rattle.cm_types_arena.specs.TypeDefs.{func_at}
use Rattle.cm_types_arena.specs.Placed.{moved_by}
use Rattle.cm_validate_instances.proofs.MemberSketchLaws.{sketch_moved}
use Rattle.cm_validate_instances.proofs.member_sketches.func_sketch.Goals as goal

pub returns : goal.returns
returns c =
    let by = moved_by c.args.ty.by in
    sketch_moved by (func_at (funcs_of c.args.arena.now) c.args.ty.place) (func_of c.func-func.result.now) c.moved_option.result c.moved_option-2.result c.func-func.ensures
    (c.moved_option.ensures ∙ ap (option_map by) c.self_borrow.ensures) (c.moved_option-2.ensures ∙ ap (option_map by) c.own_result.ensures)
