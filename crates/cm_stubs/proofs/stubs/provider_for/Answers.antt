use Rattle.std.proofs.Common.{subst}
use Rattle.cm_stubs.specs.Stubs.{LinksUnder}
use Rattle.cm_stubs.proofs.stubs.provider_for.Goals as goal

pub returns-clause-links : goal.returns-clause-links
returns-clause-links c =
    subst (λ cs. LinksUnder c.in_ok-stub.stub cs) c.in_ok-checked.ensures.held c.in_ok-link_under.ensures.links
