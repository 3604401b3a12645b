use Rattle.std.proofs.Common.{◌≡◌, take, map}
use Rattle.cm_machine_model.specs.State.{zeros}
use Rattle.cm_machine_resources.proofs.setup.memories_of.Given as goal

abbrev pub invariant-loop-count : goal.invariant-loop-count
invariant-loop-count l = l.memories ≡ map zeros (take l.count-index l.pages)
