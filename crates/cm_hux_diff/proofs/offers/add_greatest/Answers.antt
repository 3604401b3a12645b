use Rattle.std.proofs.Common.{◌∙◌, ◌++◌, [], sym, ap, subst, append-nil}
use Rattle.std.proofs.lemmas.Result.{on_ok_weaker}
use Rattle.cm_match_model.specs.Fitting.{NamedExport, named_export}
use Rattle.cm_match_serving.specs.ExportTables.{HasExports}
use Rattle.cm_hux_diff.proofs.Faces.{kept_none, kept_one, kept_several}
use Rattle.cm_hux_diff.proofs.offers.add_greatest.Goals as goal

pub returns-in-One : goal.returns-in-One
returns-in-One c =
    let e = named_export 0 c.args.place c.args.name.now in
    on_ok_weaker c.add.result (λ f all before has old.
    subst (λ es. HasExports c.add.new.self (before ++ es)) (sym (kept_one all e _ _ (sym c.in-One.is ∙ c.in_ok-candidate.ensures all has))) (f before old)) c.add.ensures.ok

pub returns-in-None : goal.returns-in-None
returns-in-None c = λ all before has old.
    let e = named_export 0 c.args.place c.args.name.now in
    subst (HasExports c.args.kept.now) (sym (append-nil before) ∙ ap (λ es. before ++ es) (sym (kept_none all e (sym c.in-None.is ∙ c.in_ok-candidate.ensures all has)))) old

pub returns-in-Several : goal.returns-in-Several
returns-in-Several c = λ all before has old.
    let e = named_export 0 c.args.place c.args.name.now in
    subst (HasExports c.args.kept.now) (sym (append-nil before) ∙ ap (λ es. before ++ es) (sym (kept_several all e (sym c.in-Several.is ∙ c.in_ok-candidate.ensures all has)))) old
