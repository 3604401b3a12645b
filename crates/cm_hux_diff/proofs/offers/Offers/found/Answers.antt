use Rattle.cm_lemmas.proofs.Results.{if_ok_more}
use Rattle.cm_match_model.specs.Ranges.{exports_named}
use Rattle.cm_hux_diff.specs.Facing.{found}
use Rattle.cm_hux_diff.proofs.Tables.{held}
use Rattle.cm_hux_diff.proofs.offers.Offers.found.Goals as goal

pub returns : goal.returns
returns c = if_ok_more c.candidate.result _ _ c.candidate.ensures (λ r h. held r (found c.args.self.now.names.items c.args.wanted.now) c.args.self.now.told (h (exports_named 0 c.args.self.now.names.items)))
