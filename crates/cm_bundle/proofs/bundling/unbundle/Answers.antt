use Rattle.cm_bundle.specs.Bundled.{bundle_of}
use Rattle.cm_bundle.proofs.Kept.{files_read}
use Rattle.cm_bundle.proofs.bundling.unbundle.Goals as goal

pub returns-clause-files : goal.returns-clause-files
returns-clause-files c =
    λ set front files exporter names b e. files_read c.read.result set front files exporter names
    (c.read.ensures.only (bundle_of set front files exporter names) b e)
