use Rattle.std.proofs.Common.{◌≡◌, ◌⊎◌, subst}
use Rattle.std.specs.Prelude.{IfErr, IfOk}
use Rattle.cm_match_model.specs.declared.fault.LinkReason.TheVariants as reason
use Rattle.cm_match_model.specs.Imports.{Sees, seen_by}
use Rattle.cm_match_model.specs.Links.{CanBeLinked, IsLinkFault}
use Rattle.cm_match_serving.specs.Sets.{spaces_of_all}
use Rattle.cm_match.specs.Before.{AreServedBefore}
use Rattle.cm_match.specs.Linked.{set_in}
use Rattle.cm_match.proofs.linking.link.Goals as goal

pub returns-clause-set : goal.returns-clause-set
returns-clause-set c =
    subst (λ (sees : Sees). IfOk c.link_by.result (λ l. set_in l ≡ seen_by sees (spaces_of_all c.args.components.items))) c.none.ensures c.link_by.ensures.set

pub returns-clause-accepted : goal.returns-clause-accepted
returns-clause-accepted c =
    subst (λ (sees : Sees). IfOk c.link_by.result (λ l. CanBeLinked (seen_by sees (spaces_of_all c.args.components.items)))) c.none.ensures c.link_by.ensures.accepted

pub returns-clause-complete : goal.returns-clause-complete
returns-clause-complete c =
    subst (λ (sees : Sees). CanBeLinked (seen_by sees (spaces_of_all c.args.components.items)) → IfErr c.link_by.result (λ f. f.reason ≡ reason.Memory)) c.none.ensures c.link_by.ensures.complete

pub returns-clause-refused : goal.returns-clause-refused
returns-clause-refused c =
    let cs = c.args.components.items in
    subst (λ (sees : Sees). IfErr c.link_by.result (λ f. ((f.reason ≡ reason.Memory) × AreServedBefore (seen_by sees (spaces_of_all cs)) f.component f.import) ⊎ IsLinkFault (seen_by sees (spaces_of_all cs)) f.component f.import f.reason))
    c.none.ensures c.link_by.ensures.refused
