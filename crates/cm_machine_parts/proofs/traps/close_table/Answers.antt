use Rattle.std.proofs.Common.{◌<◌, Bool, true, List, length, sym, subst, arith}
use Rattle.std.specs.Prelude.{slice_set}
use Rattle.cm_handles.specs.Handles.{Handles}
use Rattle.cm_machine_parts.specs.Closing.{AreClosed}
use Rattle.cm_machine_parts.specs.States.{handles_in}
use Rattle.cm_machine_parts.proofs.Closing.{close_done, close_here, closed_more, marks_more}
use Rattle.cm_machine_parts.proofs.Tables.{length_handles}
use Rattle.cm_machine_parts.proofs.traps.close_table.Goals as goal

pub returns-then-done-instance-clause-tables : goal.returns-then-done-instance-clause-tables
returns-then-done-instance-clause-tables c =
    close_done c.args.done.now (handles_in c.args.tables.now.items) c.args.instance c.requires c.if-done-instance.true

pub returns-then-instance-done-2-clause-tables : goal.returns-then-instance-done-2-clause-tables
returns-then-instance-done-2-clause-tables c =
    close_here c.args.tables.now.items c.args.instance c.index_mut-table.result.now c.close.new.self (omega arith) c.index_mut-table.ensures.value c.close.ensures.handles

pub returns-then-instance-done-2-clause-closed : goal.returns-then-instance-done-2-clause-closed
returns-then-instance-done-2-clause-closed c =
    let items = c.args.tables.now.items in
    let more : List Bool = slice_set c.args.done.now c.args.instance true in
    let lt : c.args.instance < length items = omega arith in
    let is = close_here items c.args.instance c.index_mut-table.result.now c.close.new.self lt c.index_mut-table.ensures.value c.close.ensures.handles in
    subst (λ (ts : List Handles). AreClosed more ts) (sym is) (closed_more c.args.done.now more (handles_in items) c.args.instance (omega (arith, lt, length_handles items)) c.requires (marks_more c.args.done.now c.args.instance))

pub returns-else-instance-done-2-clause-tables : goal.returns-else-instance-done-2-clause-tables
returns-else-instance-done-2-clause-tables c =
    close_here c.args.tables.now.items c.args.instance c.index_mut-table.result.now c.close.new.self (omega arith) c.index_mut-table.ensures.value c.close.ensures.handles

pub returns-else-instance-done-2-clause-closed : goal.returns-else-instance-done-2-clause-closed
returns-else-instance-done-2-clause-closed c =
    let items = c.args.tables.now.items in
    let lt : c.args.instance < length items = omega arith in
    let is = close_here items c.args.instance c.index_mut-table.result.now c.close.new.self lt c.index_mut-table.ensures.value c.close.ensures.handles in
    subst (λ (ts : List Handles). AreClosed c.args.done.now ts) (sym is) (closed_more c.args.done.now c.args.done.now (handles_in items) c.args.instance (omega (arith, lt, length_handles items)) c.requires (λ j ne mark. mark))
