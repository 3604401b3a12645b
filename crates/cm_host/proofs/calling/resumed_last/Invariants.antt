use Rattle.std.proofs.Common.{◌≡◌, [], drop}
use Rattle.cm_host.specs.Calls.{resumed_last}
use Rattle.cm_host.proofs.calling.resumed_last.Given as goal

-- what is kept goes on through the events that are left
abbrev pub invariant-loop-event : goal.invariant-loop-event
invariant-loop-event l = resumed_last l.instance l.kept (drop l.event-index l.events) ≡ resumed_last l.instance [] l.events
