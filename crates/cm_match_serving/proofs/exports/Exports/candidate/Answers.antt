use Rattle.std.proofs.Common.{filter, sym, ap, ◌∙◌}
use Rattle.cm_match_model.specs.Fitting.{only}
use Rattle.cm_match_serving.specs.Readings.{fits_read, name_read, only_named, reading_view}
use Rattle.cm_match_serving.proofs.FitLaws.{candidates_are}
use Rattle.cm_match_serving.proofs.exports.Exports.candidate.Goals as goal

pub returns-in-Some : goal.returns-in-Some
returns-in-Some c = λ es has.
    let read = ap (reading_view c.args.wanted.now) (sym c.in-Some.is) ∙ c.in_ok-name.ensures.read in
    c.versioned.ensures es has
    ∙ ap (λ r. only (filter (λ e. fits_read r (name_read e.name)) es)) read
    ∙ sym (ap only (candidates_are es c.args.wanted.now has.names c.read.ensures.form))

pub returns-in-None : goal.returns-in-None
returns-in-None c = λ es has.
    let read = ap (reading_view c.args.wanted.now) (sym c.in-None.is) ∙ c.in_ok-name.ensures.read in
    c.candidate.ensures es has.unversioned
    ∙ ap (λ n. only_named n es) c.as_str.ensures.text
    ∙ ap (λ r. only (filter (λ e. fits_read r (name_read e.name)) es)) read
    ∙ sym (ap only (candidates_are es c.args.wanted.now has.names c.read.ensures.form))
