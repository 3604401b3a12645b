-- The two sides of what is compared.
use Rattle.std.specs.Prelude.{◌≡◌, List}
use Rattle.cm_types_arena.specs.Replaced.{Standing}
use Rattle.cm_types_numbers.specs.Numbering.{numbering}
use Rattle.cm_types_numbers.specs.PlacedTables.{KnowsPlaced}
use Rattle.cm_wit_conforms.specs.Comparisons.{Entry}
use Rattle.cm_wit_conforms.specs.Conformance.{have_pair, mark, world_pair}
use Rattle.cm_wit_conforms.specs.Pairs.{HasPairs, pair_in}
use Rattle.cm_wit_conforms.specs.declared.judge.Side.{Side}
use Rattle.cm_wit_conforms.specs.declared.judge.Tables.{Tables}

-- what stands for the resources of a side
abbrev pub marks_of : Side → Standing
marks_of side r = mark side.mark (pair_in side.pairs.now r)

-- The two sides have the pairs of all that is compared, and marks of their own.
pub record AreSides (all : List Entry) (have world : Side) : Type 0 where
  pub have_pairs : HasPairs (have_pair all) have.pairs.now
  pub world_pairs : HasPairs (world_pair all) world.pairs.now
  pub have_side : have.mark ≡ 1
  pub world_side : world.mark ≡ 2

-- What is known of the types of both sides are their numbers, the resources in them marked.
pub record AreKnown (have world : Side) (tables : Tables) : Type 0 where
  pub of_have : KnowsPlaced (numbering tables.numbers) (marks_of have) have.types.now tables.have
  pub of_world :
      KnowsPlaced (numbering tables.numbers) (marks_of world) world.types.now tables.world
