use Rattle.cm_text.proofs.PairLemmas.{latin1_spelled, fits_latin1}
use Rattle.cm_text.proofs.latin1.Latin1Source.check.Goals as goal

pub returns-clause-ok : goal.returns-clause-ok
returns-clause-ok c = (c.args._bytes.now, record { all = fits_latin1 c.args._bytes.now c.type_inv._bytes; is = latin1_spelled c.args._bytes.now })
