use Rattle.std.proofs.Common.{refl}
use Rattle.cm_shims.specs.Files.{reading_of}
use Rattle.cm_shims.proofs.FilesLaws.{unfit_is}
use Rattle.cm_shims.proofs.files.check_file.Goals as goal

pub returns-in-Ok-clause-fault : goal.returns-in-Ok-clause-fault
returns-in-Ok-clause-fault c = (
  refl,
  unfit_is (reading_of c.args.shimmed.now) _ _ c.in-Err-fits.fault c.in-Ok.ensures.held c.deref.ensures.value
      c.in-Ok.ensures.accepted c.in-Err-fits.ensures.fault,
)
