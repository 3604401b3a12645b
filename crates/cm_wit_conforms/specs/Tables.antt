-- Tables in which names are found by their parts.
use Rattle.std.specs.Prelude.{◌≡◌, ℕ, List, Option, map}
use Rattle.cm_names.specs.Listed.{listed}
use Rattle.cm_wit_conforms.specs.Listings.{AreNames}
use Rattle.cm_wit_conforms.specs.Numbers.{HasFronts, front_number}
use Rattle.cm_wit_conforms.specs.Places.{back_key}
use Rattle.cm_wit_conforms.specs.PartViews.{front_view}
use Rattle.cm_wit_conforms.specs.declared.fronts.Fronts.{Fronts}
use Rattle.cm_wit_conforms.specs.declared.listing.ListedNames.{ListedNames}
use Rattle.cm_wit_conforms.specs.declared.places.NameTable.{NameTable}

-- the numbers that the fronts of a listing have
abbrev pub numbers_in : Fronts → ListedNames → List (Option ℕ)
numbers_in fronts l = map (λ f. front_number fronts (front_view f)) l.fronts.items

-- The table has the keys of a listing that has these names.
pub record HasNames (texts : List (List ℕ)) (t : NameTable) : Type 0 where
  pub list : ListedNames
  pub names : AreNames list texts
  pub fronts : HasFronts list.fronts.items t.fronts
  pub keys : listed t.keys ≡ map (back_key (numbers_in t.fronts list)) list.names.items
