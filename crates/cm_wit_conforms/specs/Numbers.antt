-- The numbers of fronts: those that are equal have one number, which is the place of the first of
-- them. It is found text by text, in lists of keys.
use Rattle.std.specs.Prelude.{◌≡◌, ℕ, List, Option, map, unwrap_or}
use Rattle.std.specs.Option.{option_and_then}
use Rattle.cm_names.specs.Keys.{Key, first_key}
use Rattle.cm_names.specs.Listed.{listed}
use Rattle.cm_wit_conforms.specs.Parts.{FrontKey}
use Rattle.cm_wit_conforms.specs.PartViews.{front_view}
use Rattle.cm_wit_conforms.specs.declared.fronts.Fronts.{Fronts}
use Rattle.cm_wit_conforms.specs.declared.parts.FrontParts.{FrontParts}

-- by the form and the first text
abbrev pub first_of : FrontKey → Key
first_of f = (f.form, f.first)

abbrev pub first_number : List Key → FrontKey → Option ℕ
first_number firsts f = first_key firsts f.form f.first

-- by this number and the second text
abbrev pub second_of : List Key → FrontKey → Key
second_of firsts f = (unwrap_or (first_number firsts f) 0, f.second)

abbrev pub second_number : List Key → List Key → FrontKey → Option ℕ
second_number firsts seconds f =
    option_and_then (λ n. first_key seconds n f.second) (first_number firsts f)

-- by this number and the version
abbrev pub version_of : List Key → List Key → FrontKey → Key
version_of firsts seconds f = (unwrap_or (second_number firsts seconds f) 0, f.version)

abbrev pub number_in : List Key → List Key → List Key → FrontKey → Option ℕ
number_in firsts seconds versions f =
    option_and_then (λ n. first_key versions n f.version) (second_number firsts seconds f)

-- the number that tables have for a front
abbrev pub front_number : Fronts → FrontKey → Option ℕ
front_number t f = number_in (listed t.firsts) (listed t.seconds) (listed t.versions) f

-- The tables have the keys of these fronts.
pub record HasFronts (fs : List FrontParts) (t : Fronts) : Type 0 where
  pub firsts : listed t.firsts ≡ map (λ f. first_of (front_view f)) fs
  pub seconds : listed t.seconds ≡ map (λ f. second_of (listed t.firsts) (front_view f)) fs
  pub versions :
      listed t.versions
      ≡ map (λ f. version_of (listed t.firsts) (listed t.seconds) (front_view f)) fs
