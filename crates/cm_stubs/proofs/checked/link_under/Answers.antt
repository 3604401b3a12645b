use Rattle.std.proofs.Common.{◌∙◌, ◌++◌, ap, subst, OnOk}
use Rattle.cm_stubs.specs.Stubs.{LinksWith}
use Rattle.cm_stubs.proofs.CheckedLaws.{set_before}
use Rattle.cm_stubs.proofs.checked.link_under.Goals as goal

pub returns-clause-links : goal.returns-clause-links
returns-clause-links c =
    subst (λ s. OnOk c.links_with.result (LinksWith s 0))
    (set_before c.append.new.self.items c.args.components.items c.in_ok-provider.provider c.args.stub.now
    (c.in_ok-append.ensures.items ∙ ap (λ xs. xs ++ c.args.components.items) c.in_ok-all.ensures.items)
    c.in_ok-provider.ensures.held)
    c.links_with.ensures
