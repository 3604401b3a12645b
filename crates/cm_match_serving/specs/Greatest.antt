-- What is kept of the exports of one row, and what it answers.
use Rattle.std.specs.Prelude.{Bool, true, false, Option, Some, None, if◌then◌else◌, not}
use Rattle.semver.specs.Identifiers.{parts_of}
use Rattle.semver.specs.Parse.{Parts}
use Rattle.semver.specs.declared.Version.{Version}
use Rattle.cm_match_model.specs.declared.candidates.Candidate.{Candidate}
use Rattle.cm_match_model.specs.declared.candidates.Candidate.TheVariants as candidate
use Rattle.cm_match_serving.specs.declared.greatest.Greatest.{Greatest}
use Rattle.cm_match_serving.specs.Readings.{is_below}

-- an export, if it is one
abbrev pub if_not_below : Bool → Candidate → Candidate
if_not_below true _ = candidate.None
if_not_below false one = one

-- whether there is a version, and it is not before this one
abbrev pub has_from : Parts → Option Version → Bool
has_from least None = false
has_from least (Some v) = not (is_below (parts_of v) least)

-- the exports of a row whose versions are not before this one
abbrev pub from_greatest : Greatest → Parts → Candidate
from_greatest g least =
    if is_below (parts_of g.version) least then candidate.None
    else if has_from least g.next then candidate.Several
    else candidate.One g.component g.export

-- the exports of a row, which may have none, whose versions are not before this one
abbrev pub from_row : Option Greatest → Parts → Candidate
from_row None least = candidate.None
from_row (Some g) least = from_greatest g least
