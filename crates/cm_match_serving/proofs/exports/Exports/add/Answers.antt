use Rattle.std.proofs.Common.{◌≡◌, None, refl, sym, ap, ◌∙◌}
use Rattle.std.proofs.lemmas.Result.{on_err_weaker, on_ok_weaker}
use Rattle.cm_match_model.specs.Fitting.{named_export}
use Rattle.cm_match_serving.specs.Readings.{name_read, reading_view, row_of}
use Rattle.cm_match_serving.proofs.Additions.{names_more}
use Rattle.cm_match_serving.proofs.UnversionedLaws.{answers_stay, names_stay}
use Rattle.cm_match_serving.proofs.exports.Exports.add.Goals as goal

pub returns-in-None-clause-ok : goal.returns-in-None-clause-ok
returns-in-None-clause-ok c =
    let e = named_export c.args.component c.args.export c.args.name.now in
    let m = c.as_str.result.now in
    let read : name_read c.args.name.now ≡ (m, None) =
    sym (ap (reading_view c.args.name.now) (sym c.in-None.is) ∙ c.in_ok-read.ensures.read) ∙ ap (λ n. (n, None)) (sym c.as_str.ensures.text) in
    on_ok_weaker c.add.result (λ h es has. record {
      names = names_more es e has.names c.read.ensures.form;
      unversioned = h es e read refl refl has.unversioned;
      answers = answers_stay c.args.self.now.rows es e m read has.answers;
    }) c.add.ensures.ok

pub returns-in-None-clause-err : goal.returns-in-None-clause-err
returns-in-None-clause-err c =
    on_err_weaker c.add.result (λ h es has. record { names = has.names; unversioned = h es has.unversioned; answers = has.answers }) c.add.ensures.err

pub returns-in-Some-clause-ok : goal.returns-in-Some-clause-ok
returns-in-Some-clause-ok c =
    let e = named_export c.args.component c.args.export c.args.name.now in
    let read = sym (ap (reading_view c.args.name.now) (sym c.in-Some.is) ∙ c.in_ok-read.ensures.read) in
    on_ok_weaker c.add_versioned.result (λ h es has. record {
      names = names_more es e has.names c.read.ensures.form;
      unversioned = names_stay c.args.self.now.names es e _ _ read has.unversioned;
      answers = h es e (ap (λ n. n.1) read) (c.series_of-series.ensures ∙ ap (λ n. row_of n.0 n.1) (sym read)) refl refl has.answers;
    }) c.add_versioned.ensures.ok

pub returns-in-Some-clause-err : goal.returns-in-Some-clause-err
returns-in-Some-clause-err c =
    on_err_weaker c.add_versioned.result (λ h es has. record { names = has.names; unversioned = has.unversioned; answers = h es has.answers }) c.add_versioned.ensures.err
