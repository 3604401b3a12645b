use Rattle.cm_validate.specs.Exports.{signature_in}
use Rattle.cm_validate_spaces.specs.Checked.{spaces_in}
use Rattle.huxarte_c_components.proofs.SoundLaws.{unshown}
use Rattle.huxarte_c_components.proofs.showing.shown_one.Goals as goal

pub returns-in-Err-clause-refused : goal.returns-in-Err-clause-refused
returns-in-Err-clause-refused c = unshown (signature_in (spaces_in c.args.component)) c.in-Err.fault c.in-Err.ensures.too_long
