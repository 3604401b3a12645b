use Rattle.std.proofs.Common.{◌≡◌, true, false, filter, sym, ap, ◌∙◌}
use Rattle.std.specs.Prelude.{not}
use Rattle.std.specs.String.{string_bytes}
use Rattle.semver.specs.Identifiers.{parts_of}
use Rattle.cm_match_model.specs.Fitting.{only}
use Rattle.cm_match_model.specs.Fitting.{and_also}
use Rattle.cm_match_serving.specs.Readings.{Row, is_in_row, is_prerelease, is_versioned, name_read, prereleases_row, releases_row}
use Rattle.cm_match_serving.proofs.FitLaws.{both_all, releases_all}
use Rattle.cm_match_serving.proofs.exports.Exports.versioned.Goals as goal

pub returns-then-is_empty : goal.returns-then-is_empty
returns-then-is_empty c = λ es has.
    let v = parts_of c.args.version.now in
    let plain : is_prerelease v ≡ false = ap not (sym c.is_empty.ensures ∙ c.if-is_empty.true) in
    c.from_series-candidate.ensures
    ∙ has.answers c.releases-releases.result v (ap (λ (r : Row). is_versioned r.1) c.releases-releases.ensures)
    ∙ ap (λ r. only (filter (λ e. is_in_row r v (name_read e.name)) es)) c.releases-releases.ensures
    ∙ releases_all (string_bytes c.args.name) v es plain

pub returns : goal.returns
returns c = λ es has.
    let v = parts_of c.args.version.now in
    let marked : is_prerelease v ≡ true = ap not (sym c.is_empty.ensures ∙ c.if-is_empty.false) in
    let releases = c.from_series-candidate.ensures ∙ has.answers c.releases-releases.result v (ap (λ (r : Row). is_versioned r.1) c.releases-releases.ensures) ∙ ap (λ r. only (filter (λ e. is_in_row r v (name_read e.name)) es)) c.releases-releases.ensures in
    let prereleases = c.from_series.ensures ∙ has.answers c.prereleases-prereleases.result v (ap (λ (r : Row). is_versioned r.1) c.prereleases-prereleases.ensures) ∙ ap (λ r. only (filter (λ e. is_in_row r v (name_read e.name)) es)) (c.prereleases-prereleases.ensures ∙ ap (λ n. prereleases_row n v) (ap (λ (r : Row). r.0) c.releases-releases.ensures)) in
    c.and_also.ensures
    ∙ ap (λ x. and_also x c.from_series.result) releases
    ∙ ap (and_also (only (filter (λ e. is_in_row (releases_row (string_bytes c.args.name) v) v (name_read e.name)) es))) prereleases
    ∙ both_all (string_bytes c.args.name) v es marked
