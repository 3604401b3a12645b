use Rattle.std.proofs.Common.{nat_le, arith}
use Rattle.cm_text.proofs.CountLemmas.{ones_from, count_le}
use Rattle.cm_text.proofs.sizes.count_from.Goals as goal

pub returns-clause-value : goal.returns-clause-value
returns-clause-value c = ones_from c.args.least c.args.lanes c.fits-lanes.0

pub returns-clause-most : goal.returns-clause-most
returns-clause-most c = omega (arith, ones_from c.args.least c.args.lanes c.fits-lanes.0, count_le (λ x. nat_le c.args.least x) c.args.lanes 16 c.fits-lanes.0)
