-- What is recorded of a session (this project's own choice).
use Rattle.std.specs.Prelude.{Bool, Option, is_none}
use Rattle.std.specs.Option.{option_map}
use Rattle.cm_live.specs.declared.record.Record.{Record}

-- whether a root call is recorded: then the pages of the script stand
abbrev pub has_begun : {K : Type 0} → Record K → Bool
has_begun r = is_none r.pages

-- the same, where a record is given
abbrev pub recording_of : {K : Type 0} → Option (Record K) → Option Bool
recording_of r = option_map has_begun r
