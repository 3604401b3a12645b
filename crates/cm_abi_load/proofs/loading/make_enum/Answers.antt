use Rattle.std.proofs.Common.{subst}
use Rattle.cm_abi_load.proofs.CaseLemmas.{enum_made}
use Rattle.cm_abi_load.proofs.LoadLemmas.{enum_past}
use Rattle.cm_abi_load.proofs.loading.make_enum.Goals as goal
use Rattle.cm_types.proofs.ValuesLaws.{seen_bare}

pub returns-then-index-count : goal.returns-then-index-count
returns-then-index-count g c = λ w target p s kept.
    enum_made g.M.Maker.stands g.M.Maker.keeps w target c.args.count c.args.index p c.make.result kept s c.if-index-count.true
    (subst (λ v. g.M.Maker.stands c.make.result v) (seen_bare c.args.index) c.make.ensures) (g.met.M.Maker.keeps_nothing kept)

pub returns-else-index-count : goal.returns-else-index-count
returns-else-index-count g c = λ w target p s kept. enum_past w c.args.count c.args.index c.args.index p s c.if-index-count.false
