-- Declarations, with what finds them.
use Rattle.std.specs.Prelude.{◌≡◌, ℕ, ◌<◌, List, Some, map, length, slice_get}
use Rattle.cm_names.specs.Listed.{listed}
use Rattle.cm_wit_tables.specs.DeclaredViews.{declaration_view}
use Rattle.cm_wit_tables.specs.Declarations.{Declaration, keys_of}
use Rattle.cm_wit_tables.specs.Tables.{resource_of}
use Rattle.cm_wit_tables.specs.declared.listing.Listing.{Listing}

-- the declarations
abbrev pub declared : Listing → List Declaration
declared x = map declaration_view x.declarations.now

-- The keys are those of the declarations, and the resources those that they would bring.
pub record IsListing (x : Listing) : Type 0 where
  pub names : listed x.names.now ≡ keys_of (declared x)
  pub size : length x.resources.now ≡ length x.declarations.now
  pub resources : (k : ℕ) → k < length x.declarations.now
      → slice_get x.resources.now k ≡ Some (resource_of (declared x) k)
