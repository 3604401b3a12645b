use Rattle.cm_types_arena.specs.Listed.{externs_listed}
use Rattle.cm_hux_diff.proofs.Places.{names_next}
use Rattle.cm_hux_diff.proofs.names.names_of.Goals as goal

pub loop-place-preserved : goal.loop-place-preserved
loop-place-preserved c = λ t. names_next (externs_listed t c.args.externs.now) c.loop-place.place c.loop-place.names.items c.add_name.new.names.items (c.loop-place.invariant t) (c.in_ok-add_name.ensures t)
