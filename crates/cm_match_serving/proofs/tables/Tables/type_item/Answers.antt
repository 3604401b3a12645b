use Rattle.std.proofs.Common.{Option, sym, ap, subst}
use Rattle.cm_types.specs.Signatures.{ItemTy, equal_type}
use Rattle.cm_types_arena.specs.Placed.{placed_type}
use Rattle.cm_validate_model.specs.Spaces.{item_of_member}
use Rattle.cm_match_model.specs.declared.fault.LinkReason.TheVariants as reason
use Rattle.cm_match_model.specs.Serving.{IsSameType}
use Rattle.cm_validate_entries.specs.Entries.{member_def}
use Rattle.cm_validate_entries.specs.declared.entries.MemberEntry.{MemberEntry}
use Rattle.cm_match_serving.specs.Answers.{Judges, JudgesItem}
use Rattle.cm_match_serving.specs.Sides.{had_funcs, had_types, set_of_pair, wanted_types}
use Rattle.cm_match_serving.specs.Tables.{type_brought}
use Rattle.cm_match_serving.proofs.Judging.{judged, type_answer}
use Rattle.cm_match_serving.proofs.tables.Tables.type_item.Goals as goal

pub returns-in_ok-same-in-Value-clause-fault : goal.returns-in_ok-same-in-Value-clause-fault
returns-in_ok-same-in-Value-clause-fault c =
    let p = c.args.pair.now in
    let set = set_of_pair p in
    let t = type_brought (wanted_types p) c.args.wanted in
    let u = placed_type (had_types p) c.in-Value.ty in
    let same = IsSameType set p.importer t p.provider u in
    let told = subst (Judges same reason.DifferentType) (sym c.unless_same.ensures) (judged c.in_ok-same-in-Value.same same reason.DifferentType c.in_ok-same-in-Value.ensures.same) in
    subst (λ (o : Option ItemTy). JudgesItem set p.importer (equal_type t) p.provider o c.unless_same.result) (sym (ap (λ (m : MemberEntry). item_of_member (member_def (had_types p) (had_funcs p) m)) c.in-Value.is))
    (type_answer set p.importer t p.provider u c.unless_same.result told)
