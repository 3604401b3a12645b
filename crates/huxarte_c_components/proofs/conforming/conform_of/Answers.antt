use Rattle.cm_validate_spaces.specs.Checked.{sections_in}
use Rattle.huxarte_c_components.proofs.SoundLaws.{fits_of, unfit_of}
use Rattle.huxarte_c_components.proofs.conforming.conform_of.Goals as goal

pub returns-in-Ok-clause-fits : goal.returns-in-Ok-clause-fits
returns-in-Ok-clause-fits c =
    fits_of c.args.bytes.now c.args.wit.now c.args.world.now (sections_in c.in-Ok.component) c.conform_one.result (c.in-Ok.ensures.held c.args.bytes.now (rw c.deref.ensures.value c.in_ok-files.ensures.read)) c.conform_one.ensures.fits

pub returns-in-Ok-clause-refused : goal.returns-in-Ok-clause-refused
returns-in-Ok-clause-refused c =
    unfit_of c.args.bytes.now c.args.wit.now c.args.world.now (sections_in c.in-Ok.component) c.conform_one.result (c.in-Ok.ensures.held c.args.bytes.now (rw c.deref.ensures.value c.in_ok-files.ensures.read)) c.conform_one.ensures.refused

pub returns-clause-refused : goal.returns-clause-refused
returns-clause-refused c = c.in-Err.ensures.refused c.args.bytes.now (rw c.deref.ensures.value c.in_ok-files.ensures.read)
