use Rattle.std.proofs.Common.{Some, sym, ap, ◌∙◌}
use Rattle.cm_machine_model.specs.Events.{is_last}
use Rattle.cm_machine.proofs.Drives.{last_seen, last_is_seen}
use Rattle.cm_machine.proofs.turns.is_over.Goals as goal

pub returns-in-Some : goal.returns-in-Some
returns-in-Some c first told is =
    let there = last_seen c.deref.result.now c.args.events.now.items (Some c.in-Some.event.now) c.deref.ensures.value c.in-Some.ensures.value in
    c.is_last.ensures ∙ ap is_last (sym (last_is_seen c.args.events.now.items c.in-Some.event.now there first told is))
