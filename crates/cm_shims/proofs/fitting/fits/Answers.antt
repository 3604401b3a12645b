use Rattle.cm_validate_spaces.specs.Checked.{spaces_in}
use Rattle.cm_shims.proofs.FitLaws.{judged_complete, judged_fault, judged_held}
use Rattle.cm_shims.proofs.fitting.fits.Goals as goal

pub returns-in-Ok-clause-held : goal.returns-in-Ok-clause-held
returns-in-Ok-clause-held c =
    let s = spaces_in c.args.checked.now in
    judged_held s c.args.wants.now c.judge.result (c.judge.ensures s c.in-Ok.ensures)

pub returns-in-Ok-clause-complete : goal.returns-in-Ok-clause-complete
returns-in-Ok-clause-complete c =
    let s = spaces_in c.args.checked.now in
    judged_complete s c.args.wants.now c.judge.result (c.judge.ensures s c.in-Ok.ensures)

pub returns-in-Ok-clause-fault : goal.returns-in-Ok-clause-fault
returns-in-Ok-clause-fault c =
    let s = spaces_in c.args.checked.now in
    judged_fault s c.args.wants.now c.judge.result (c.judge.ensures s c.in-Ok.ensures)
