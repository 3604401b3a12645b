use Rattle.std.proofs.Common.{[]}
use Rattle.cm_abi_load.specs.Outcomes.{state_of}
use Rattle.cm_abi_load.specs.Reading.{read_handle}
use Rattle.cm_abi_running.proofs.LookingLemmas.{looked_of}
use Rattle.cm_abi_running.proofs.looking.look_at_handle.Goals as goal

pub returns : goal.returns
returns c = λ kept.
    looked_of (λ v. []) (read_handle c.args.table.now.handles c.args.wanted c.args.index (state_of c.args.progress.now)) kept.items kept.items (state_of c.args.progress.now) (state_of c.make_handle.new.progress) c.make_handle.result (c.make_handle.ensures kept)
