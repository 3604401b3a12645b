use Rattle.std.proofs.Common.{◌∙◌, Option, ap, subst, option_and_then}
use Rattle.std.specs.Prelude.{IfOk}
use Rattle.cm_types.specs.Signatures.{ItemTy}
use Rattle.cm_validate_model.specs.Spaces.{item_of_member}
use Rattle.cm_match_model.specs.declared.fault.LinkReason.TheVariants as reason
use Rattle.cm_match_model.specs.Serving.{IsUnserved, item_under}
use Rattle.cm_validate_entries.specs.Entries.{members_of}
use Rattle.cm_match_serving.specs.Answers.{JudgesItem, wanted_desc}
use Rattle.cm_match_serving.specs.Sides.{had_funcs, had_types, set_of_pair, wanted_funcs, wanted_types}
use Rattle.cm_match_serving.proofs.tables.Tables.under_fault.Goals as goal

pub returns-in-None-clause-fault : goal.returns-in-None-clause-fault
returns-in-None-clause-fault c =
    let p = c.args.pair.now in
    let w = wanted_desc (wanted_types p) (wanted_funcs p) c.args.by c.args.wanted.now.desc in
    let ms = members_of (had_types p) (had_funcs p) c.args.have.now in
    subst (λ (o : Option ItemTy). IsUnserved (set_of_pair p) p.importer w p.provider o reason.MissingExport)
    (ap (option_and_then (λ m. item_of_member m)) (c.in-None.ensures.def (had_types p) (had_funcs p)) ∙ ap (item_under ms) c.as_str.ensures.text) tt

pub returns-in-Some-clause-fault : goal.returns-in-Some-clause-fault
returns-in-Some-clause-fault c =
    let p = c.args.pair.now in
    let w = wanted_desc (wanted_types p) (wanted_funcs p) c.args.by c.args.wanted.now.desc in
    let ms = members_of (had_types p) (had_funcs p) c.args.have.now in
    subst (λ (o : Option ItemTy). IfOk c.item_fault.result (JudgesItem (set_of_pair p) p.importer w p.provider o))
    (ap (option_and_then (λ m. item_of_member m)) (c.in-Some.ensures.def (had_types p) (had_funcs p)) ∙ ap (item_under ms) c.as_str.ensures.text) c.item_fault.ensures.fault
