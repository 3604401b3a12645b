use Rattle.std.proofs.Common.{take}
use Rattle.cm_validate_model.specs.Spaces.{Spaces}
use Rattle.cm_validate_spaces.specs.IndexSpaces.{IsAt}
use Rattle.cm_shims.specs.Fitting.{AllHold}
use Rattle.cm_shims.specs.Judging.{IsKnown}
use Rattle.cm_shims.proofs.fitting.judge.Given as goal

abbrev pub invariant-loop-number : goal.invariant-loop-number
invariant-loop-number l =
    IsKnown l.tables l.arena
    × ((s : Spaces) → IsAt l.spaces s → AllHold s (take l.number l.wants))
