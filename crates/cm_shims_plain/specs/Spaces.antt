-- The index spaces that change on the way to the plain component.
use Rattle.std.specs.Prelude.{ℕ, List}
use Rattle.cm_shims_plain.specs.declared.spaces.TypeSpace.{TypeSpace}
use Rattle.cm_shims_plain.specs.Renumbered.{place_of}

-- The types of a file, or of a shim in it: where each stands in the plain component, and how many
-- types that has.
pub record Types : Type 0 where
  pub places : List ℕ
  pub count : ℕ

abbrev pub types_of : TypeSpace → Types
types_of s = record { places = s.places.items; count = s.count }

-- Where the type with an index stands.
abbrev pub place : Types → ℕ → ℕ
place s i = place_of s.places s.count i
