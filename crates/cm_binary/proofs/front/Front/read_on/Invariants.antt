use Rattle.std.proofs.Common.{length}
use Rattle.cm_binary.specs.Progress.{Reaches}
use Rattle.cm_binary.specs.Views.{progress}
use Rattle.cm_binary.proofs.front.Front.read_on.Given as goal

abbrev pub invariant-loop-rest : goal.invariant-loop-rest
invariant-loop-rest l = Reaches (progress l.fn.self) l.fn.bytes l.behind (progress l.self)

abbrev pub decreases-loop-rest : goal.decreases-loop-rest
decreases-loop-rest l = length l.behind
