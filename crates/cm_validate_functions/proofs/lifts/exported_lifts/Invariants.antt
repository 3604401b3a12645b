use Rattle.std.proofs.Common.{take}
use Rattle.cm_validate_spaces.specs.Checked.{funcs_in, spaces_in}
use Rattle.cm_validate_functions.specs.Kept.{AreKept}
use Rattle.cm_validate_functions.specs.Lifts.{lifts_from}
use Rattle.cm_validate_functions.proofs.lifts.exported_lifts.Given as goal

abbrev pub invariant-loop-export : goal.invariant-loop-export
invariant-loop-export l =
    AreKept (funcs_in l.checked) (spaces_in l.checked) (lifts_from 0 (take l.export (spaces_in l.checked).exports)) l.met l.lifts.items
