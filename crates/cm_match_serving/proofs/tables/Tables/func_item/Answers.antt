use Rattle.std.proofs.Common.{Option, sym, ap, subst}
use Rattle.cm_types.specs.Signatures.{ItemTy, func_item}
use Rattle.cm_validate_model.specs.Definitions.{func_type_of}
use Rattle.cm_validate_model.specs.Spaces.{item_of_member}
use Rattle.cm_validate_entries.specs.Entries.{func_def, member_def}
use Rattle.cm_validate_entries.specs.declared.entries.MemberEntry.{MemberEntry}
use Rattle.cm_match_serving.specs.Answers.{JudgesItem}
use Rattle.cm_match_serving.specs.Sides.{had_funcs, had_types, set_of_pair, wanted_funcs}
use Rattle.cm_match_serving.specs.Tables.{func_brought}
use Rattle.cm_match_serving.proofs.Judging.{func_answer}
use Rattle.cm_match_serving.proofs.tables.Tables.func_item.Goals as goal
use Rattle.cm_lemmas.proofs.Results.{if_ok_more}

pub returns-in-Func-clause-fault : goal.returns-in-Func-clause-fault
returns-in-Func-clause-fault c =
    let p = c.args.pair.now in
    let set = set_of_pair p in
    let f = func_brought (wanted_funcs p) c.args.wanted in
    if_ok_more c.func_fault.result _ _ c.func_fault.ensures.fault (λ r h.
    subst (λ (o : Option ItemTy). JudgesItem set p.importer (func_item f) p.provider o r) (sym (ap (λ (m : MemberEntry). item_of_member (member_def (had_types p) (had_funcs p) m)) c.in-Func.is))
    (func_answer set p.importer f p.provider (func_type_of (func_def (had_funcs p) c.in-Func.func)) r h))
