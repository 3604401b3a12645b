use Rattle.cm_lemmas.proofs.Results.{if_ok_more}
use Rattle.cm_match_model.specs.Fitting.{candidates, only}
use Rattle.cm_hux_diff.specs.Facing.{greatest}
use Rattle.cm_hux_diff.proofs.Tables.{held}
use Rattle.cm_hux_diff.proofs.offers.Offers.found_greatest.Goals as goal

pub returns : goal.returns
returns c = if_ok_more c.candidate.result _ _ c.candidate.ensures (λ r h. held r (only (candidates (greatest c.args.self.now.names.items) c.args.wanted.now)) c.args.self.now.keeps (h (greatest c.args.self.now.names.items)))
