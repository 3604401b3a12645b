use Rattle.std.proofs.Common.{◌++◌, ◌∷◌, [], subst, OnOk}
use Rattle.cm_stubs.specs.Stubs.{LinksWith, set_of}
use Rattle.cm_stubs.specs.Sets.{sections_of}
use Rattle.cm_stubs.proofs.CheckedLaws.{set_behind}
use Rattle.cm_stubs.proofs.checked.link_over.Goals as goal

pub returns-clause-links : goal.returns-clause-links
returns-clause-links c =
    subst (λ n. OnOk c.links_with.result (LinksWith (set_of (sections_of c.args.components.items ++ c.args.stub.now ∷ [])) n))
    c.last_of-last.ensures
    (subst (λ s. OnOk c.links_with.result (LinksWith s c.last_of-last.result))
    (set_behind c.push.new.self.items c.args.components.items c.in_ok-valid_caller.field-0 c.args.stub.now
    c.in_ok-push.ensures.items c.in_ok-valid_caller.ensures.held)
    c.links_with.ensures)
