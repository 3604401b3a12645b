use Rattle.std.proofs.Common.{◌≡◌}
use Rattle.std.specs.Prelude.{replicate}
use Rattle.cm_handles.specs.Handles.{no_handles}
use Rattle.cm_machine_parts.specs.States.{handles_in}
use Rattle.cm_machine_resources.proofs.setup.tables_of.Given as goal

abbrev pub invariant-loop : goal.invariant-loop
invariant-loop l = handles_in l.tables.items ≡ replicate l.counter no_handles
