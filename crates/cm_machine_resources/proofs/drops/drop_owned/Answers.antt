use Rattle.std.proofs.Common.{◌≡◌, Some}
use Rattle.cm_handles.specs.Handles.{handle_at}
use Rattle.cm_machine_model.specs.State.{State, table_at}
use Rattle.cm_machine_parts.specs.States.{state_of}
use Rattle.cm_machine_resources.proofs.Finding.{found_stands}
use Rattle.cm_machine_resources.proofs.drops.drop_owned.Goals as goal

pub release_owned-requires-clause-made : goal.release_owned-requires-clause-made
release_owned-requires-clause-made c =
    let s : State = state_of c.args.state.now in
    let d = c.args.dropped.now in
    let stands : handle_at (table_at s.tables d.instance) d.index ≡ Some d.handle = found_stands (table_at s.tables d.instance) d.index d.resource d.handle c.requires.found.1 in
    c.requires.runs.1.valid.made d.instance d.index d.handle stands
