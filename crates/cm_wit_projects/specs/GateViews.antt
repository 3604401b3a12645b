-- Gates as the code looks at them.
use Rattle.std.specs.Prelude.{ℕ, Bool, ◌&&◌, ◌||◌, not, List, Option, map}
use Rattle.std.specs.Prelude.{if◌then◌else◌}
use Rattle.std.specs.Borrow.{Bor}
use Rattle.std.specs.Option.{option_map}
use Rattle.semver.specs.Identifiers.{parts_of}
use Rattle.semver.specs.Parse.{Parts}
use Rattle.semver.specs.declared.Version.{Version}
use Rattle.cm_wit_projects_reading.specs.Trees.{Gate}
use Rattle.cm_wit_projects.specs.declared.gating.Before.{Before}
use Rattle.cm_wit_projects.specs.Gates.{is_deprecated}

-- the names of features
abbrev pub features_of : List (Bor (List ℕ)) → List (List ℕ)
features_of features = map (λ f. f.now) features

-- the version of a package, as it is read
abbrev pub version_view : Option Version → Option Parts
version_view version = option_map parts_of version

-- whether a gate may stand behind these, but for versions
abbrev pub lets_stand : Before → Gate → Bool
lets_stand before g =
    if is_deprecated g then not before.deprecated && before.has_origin else not before.origin

-- these and one more
abbrev pub and_gate : Before → Gate → Before
and_gate before g = record {
  has_origin = before.has_origin;
  origin = before.origin || not (is_deprecated g);
  deprecated = before.deprecated || is_deprecated g;
}
