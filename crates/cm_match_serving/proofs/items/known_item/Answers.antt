use Rattle.std.proofs.Common.{◌≡◌, Option, sym, ap, subst}
use Rattle.cm_types.specs.Signatures.{ItemTy, equal_resource}
use Rattle.cm_types.specs.declared.resource.ResourceId.{ResourceId}
use Rattle.cm_types_arena.specs.Instances.{numbered}
use Rattle.cm_validate_model.specs.Spaces.{item_of_member}
use Rattle.cm_match_model.specs.declared.fault.LinkReason.TheVariants as reason
use Rattle.cm_match_model.specs.Serving.{standing}
use Rattle.cm_validate_entries.specs.Entries.{member_def}
use Rattle.cm_validate_entries.specs.declared.entries.MemberEntry.{MemberEntry}
use Rattle.cm_match_serving.specs.Answers.{Judges, JudgesItem}
use Rattle.cm_match_serving.specs.Sides.{set_of_pair}
use Rattle.cm_match_serving.proofs.Judging.{known_answer}
use Rattle.cm_match_serving.proofs.items.known_item.Goals as goal

pub returns-in-Resource : goal.returns-in-Resource
returns-in-Resource c = λ types funcs.
    let p = c.args.pair.now in
    let set = set_of_pair p in
    let r = c.known_fault.result in
    let told = subst (λ (q : ResourceId). Judges (standing set p.importer c.args.wanted ≡ standing set p.provider q) reason.DifferentResource r) c.resource.ensures c.known_fault.ensures in
    subst (λ (o : Option ItemTy). JudgesItem set p.importer (equal_resource c.args.wanted) p.provider o r) (sym (ap (λ (m : MemberEntry). item_of_member (member_def types funcs m)) c.in-Resource.is))
    (known_answer set p.importer c.args.wanted p.provider (numbered c.in-Resource.number) r told)
