use Rattle.std.proofs.Common.{◌≡◌, length}
use Rattle.cm_machine_model.specs.State.{closed_after_trap, tables_after_trap}
use Rattle.cm_machine_parts.specs.Closing.{AreClosed}
use Rattle.cm_machine_parts.specs.States.{handles_in}
use Rattle.cm_machine_parts.proofs.traps.close_frames.Given as goal

abbrev pub invariant-loop-frame : goal.invariant-loop-frame
invariant-loop-frame l = record {
  closed : closed_after_trap l.stack.frames l.closed.items ≡ closed_after_trap l.fn.stack.frames l.fn.closed.items;
  tables : tables_after_trap l.stack.frames (handles_in l.tables.items) ≡ tables_after_trap l.fn.stack.frames (handles_in l.fn.tables.items);
  done : AreClosed l.done (handles_in l.tables.items);
}

abbrev pub decreases-loop-frame : goal.decreases-loop-frame
decreases-loop-frame l = length l.stack.frames
