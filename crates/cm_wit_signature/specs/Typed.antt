-- What is known of a world where the names in what it reaches lead to types.
use Rattle.std.specs.Prelude.{◌≡◌, ℕ, List, length}
use Rattle.cm_wit_reading.specs.Trees.{File}
use Rattle.cm_wit_worlds.specs.Interfaces.{PlacedInterface, PlacedWorld, interfaces}
use Rattle.cm_wit_tables.specs.Declarations.{Declaration}
use Rattle.cm_wit_tables.specs.Worlds.{Instance, instances, declarations}
use Rattle.cm_wit_worlds.specs.Worlds.{AreWorldExterns}
use Rattle.cm_wit_signature.specs.Named.{HaveTypes}
use Rattle.cm_wit_signature.specs.Signatures.{interfaces_among}

-- These are the interfaces of packages, and what the world imports and exports, in order; its
-- instances, the number of those that it imports, and what they declare; and each name leads to a
-- type.
pub record IsTyped (fs : List File) (w : PlacedWorld) (all : List PlacedInterface)
    (into out : List ℕ) (xs : List Instance) (imported : ℕ) (ds : List Declaration) : Type 0 where
  pub are_interfaces : all ≡ interfaces fs
  pub externs : AreWorldExterns fs w into out
  pub are_instances : xs ≡ instances (length (interfaces fs)) into out
  pub are_imported : imported ≡ length (interfaces_among (interfaces fs) into)
  pub are_declared : ds ≡ declarations fs (instances (length (interfaces fs)) into out)
  pub typed : HaveTypes fs w (instances (length (interfaces fs)) into out)
