use Rattle.std.proofs.Common.{◌∙◌, sym}
use Rattle.cm_match_model.specs.declared.component.Link.{Link}
use Rattle.cm_match_model.specs.Imports.{candidates}
use Rattle.cm_match_serving.specs.Linkings.{set_in}
use Rattle.cm_match_serving.proofs.Judging.{chosen, import_answer, linked, one_link}
use Rattle.cm_match_serving.proofs.tables.Tables.import_fault.Goals as goal
use Rattle.cm_lemmas.proofs.Results.{if_ok_more}

pub returns-in-One-clause-fault : goal.returns-in-One-clause-fault
returns-in-One-clause-fault c =
    let set = set_in c.args.linking.now in
    let at = c.args.component in
    let n = c.args.import in
    let l : Link = record { component = c.in-One.provider; export = c.in-One.export } in
    if_ok_more c.export_fault.result _ _ c.export_fault.ensures.fault (λ r h x there.
    let link = one_link (candidates set at n x) c.in-One.provider c.in-One.export (sym c.in-One.is ∙ chosen set at n x c.in-Some.candidate c.in-Some.ensures there) in
    let e = c.links_name_exports.ensures set at n l (linked set at n x l there link) in
    import_answer set at n x l e.0 r link e.1 (h x e.0 there e.1))
