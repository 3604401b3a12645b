-- The exports that a table has been given.
use Rattle.std.specs.Prelude.{◌≡◌, ℕ, true, List, Option, filter}
use Rattle.std.specs.BTreeMap.{BTreeMap, get}
use Rattle.std.specs.List.{AllByRecursion}
use Rattle.semver.specs.Parse.{Parts}
use Rattle.cm_match_serving.specs.declared.exports.Exports.{Exports}
use Rattle.cm_match_model.specs.declared.candidates.Candidate.{Candidate}
use Rattle.cm_match_serving.specs.declared.greatest.Greatest.{Greatest}
use Rattle.cm_match_serving.specs.declared.series.Series.{Series}
use Rattle.cm_match_model.specs.Fitting.{NamedExport, only}
use Rattle.cm_match_serving.specs.Greatest.{from_row}
use Rattle.cm_match_serving.specs.Readings.{HasForm, fits_read, is_in_row, is_versioned, name_read}
use Rattle.cm_match_serving.specs.Unversioned.{TellNames}
use Rattle.cm_match_serving.specs.Readings.{series_order, series_view}

-- each row of names with versions answers for those of the exports that are in it
abbrev pub Answers : BTreeMap Series Greatest → List NamedExport → Type 0
Answers rows exports = (s : Series) (least : Parts) → is_versioned s.kind ≡ true
    → from_row (get series_order rows s) least
    ≡ only (filter (λ e. is_in_row (series_view s) least (name_read e.name)) exports)

-- the table has been given these exports, in this order
pub record HasExports (table : Exports) (exports : List NamedExport) : Type 0 where
  pub names : AllByRecursion (λ e. HasForm e.name) exports
  pub unversioned : TellNames table.names exports
  pub answers : Answers table.rows exports

-- what a table answers for a name that was read: none, the only one, or more than one of those that
-- fit, whichever exports it has been given
abbrev pub IsAnswer : Exports → List ℕ × Option Parts → Candidate → Type 0
IsAnswer table wanted answer = (exports : List NamedExport) → HasExports table exports
    → answer ≡ only (filter (λ e. fits_read wanted (name_read e.name)) exports)
