use Rattle.cm_types.specs.Values.{parts}
use Rattle.cm_types.specs.ValueTrees.{values_of}
use Rattle.cm_host_values.specs.HostTypes.{types_in}
use Rattle.cm_host.proofs.Moves.{gives_back}
use Rattle.cm_host.proofs.playing.Playing.give.Goals as goal

pub returns-in-Ok : goal.returns-in-Ok
returns-in-Ok c =
    gives_back c.args.func.now.results (parts (values_of c.args.values.now)) c.in_ok-lowered.lowered c.in-Ok.moves.items c.next_move.result c.next_move.new.self.moves.items
    (c.in_ok-lowered.ensures.denoted (types_in c.args.func.now.results) c.has_no_handles.ensures) c.in-Ok.ensures c.next_move.ensures
