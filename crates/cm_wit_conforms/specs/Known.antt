-- Items that are known by their names, and where the names of other items meet them.
use Rattle.std.specs.Prelude.{◌≡◌, ℕ, List, Option, Some, map, slice_get}
use Rattle.std.specs.BTreeMap.{get}
use Rattle.std.specs.Option.{option_and_then}
use Rattle.std.specs.Ordering.{nat_cmp}
use Rattle.cm_wit_conforms.specs.Hits.{repeats_from}
use Rattle.cm_wit_conforms.specs.Places.{place_in}
use Rattle.cm_wit_conforms.specs.Tables.{HasNames}
use Rattle.cm_wit_conforms.specs.declared.known.KnownItems.{KnownItems}
use Rattle.cm_wit_conforms.specs.declared.known.Meeting.{Meeting}

-- Of items with these names it is known which names they have, where the first of each name
-- stands, and which are not the first of theirs.
pub record AreKnown (texts : List (List ℕ)) (k : KnownItems) : Type 0 where
  pub names : HasNames texts k.table
  pub firsts : k.firsts.items ≡ map (place_in texts) texts
  pub repeats : k.repeats.items ≡ repeats_from 0 k.firsts.items

-- the place of another list's first name that is the one at a place, if one is
abbrev pub found_at : Meeting → ℕ → Option ℕ
found_at m place =
    option_and_then (get nat_cmp m.hits)
    (option_and_then (λ f. f) (slice_get m.firsts.now place))

abbrev pub places_in : Meeting → List ℕ
places_in m = m.places.items

-- A place stands among these.
abbrev pub StandsIn : ℕ → List ℕ → Type 0
StandsIn place places = (n : ℕ) × (slice_get places n ≡ Some place)

-- Names meet others: for each the first of the others that is the same text is found, and the
-- places of all for which one is found are listed, in any order and some maybe twice.
pub record AreMet (texts others : List (List ℕ)) (m : Meeting) : Type 0 where
  pub found :
      (place : ℕ) → found_at m place ≡ option_and_then (place_in others) (slice_get texts place)
  pub among : (place n : ℕ) → found_at m place ≡ Some n → StandsIn place (places_in m)
