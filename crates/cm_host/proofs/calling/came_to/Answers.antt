use Rattle.cm_machine.specs.cm_machine_model.declared.event.Event.TheVariants as event
use Rattle.cm_host.proofs.Ends.{ends_with}
use Rattle.cm_host.proofs.calling.came_to.Goals as goal

pub returns-in-Ok-clause-ended : goal.returns-in-Ok-clause-ended
returns-in-Ok-clause-ended c = (ends_with c.args.events.now c.last.result event.Ended c.last.ensures.value c.in-Ok.ensures.ended, c.resumed_last.ensures)

pub returns-in-Err-clause-trapped : goal.returns-in-Err-clause-trapped
returns-in-Err-clause-trapped c t is = ends_with c.args.events.now c.last.result (event.Trapped t) c.last.ensures.value (c.in-Err.ensures.trapped t is)
