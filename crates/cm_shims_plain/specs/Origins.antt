-- Where the sections and items of the plain component come from in the file.
use Rattle.std.specs.Prelude.{ℕ, List, map, get_or, Option, slice_get}
use Rattle.std.specs.Option.{option_map}
use Rattle.cm_shims_plain.specs.declared.places.Place.{Place}
use Rattle.cm_shims_plain.specs.declared.places.Places.{Places}
use Rattle.cm_shims_plain.specs.declared.places.Source.{Source}

-- A section of the plain component comes from this section of the file, and its items from these
-- there; an item behind them from the one with its own number.
pub record Origin : Type 0 where
  pub section : ℕ
  pub items : List ℕ

-- The place in the file of an item of a section.
abbrev pub place_at : Origin → ℕ → Place
place_at o item = record { section = o.section; item = get_or o.items item item }

abbrev pub place_in : List Origin → ℕ → ℕ → Option Place
place_in origins section item =
    option_map (λ o. place_at o item) (slice_get origins section)

-- ---- what the code's types say

abbrev pub origin_of : Source → Origin
origin_of s = record { section = s.section; items = s.items.items }

abbrev pub origins_of : Places → List Origin
origins_of p = map origin_of p.sources.items
