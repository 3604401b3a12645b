-- What is known of the types of the components of a set.
use Rattle.std.specs.Prelude.{◌≡◌, ℕ, List, Some, length, slice_get}
use Rattle.cm_types.specs.Types.{Ty, FuncTy}
use Rattle.cm_types_arena.specs.Replaced.{replaced, replaced_func}
use Rattle.cm_types_arena.specs.TypeDefs.{type_at, func_at}
use Rattle.cm_types_numbers.specs.Numbering.{numbering}
use Rattle.cm_types_numbers.specs.Moved.{brought_by}
use Rattle.cm_types_numbers.specs.declared.known_placed.KnownPlaced.{KnownPlaced}
use Rattle.cm_types_numbers.specs.declared.moves.Brought.{Brought}
use Rattle.cm_match_model.specs.Serving.{standing}
use Rattle.cm_match_serving.specs.Linkings.{components_in, set_in}
use Rattle.cm_match_serving.specs.Sets.{types_at, funcs_at}
use Rattle.cm_match_serving.specs.Knowing.{KnowsAll}
use Rattle.cm_match_serving.specs.declared.linking.Linking.{Linking}
use Rattle.cm_match_serving.specs.declared.tables.Tables.{Tables}

-- a type, and the type of a function, that an item brings, among those of an arena
abbrev pub type_brought : List Ty → Brought → Ty
type_brought types b = replaced (brought_by b) (type_at types b.ty.place)

abbrev pub func_brought : List FuncTy → Brought → FuncTy
func_brought funcs b = replaced_func (brought_by b) (func_at funcs b.ty.place)

-- What is known of the types of each component of a set are their numbers, each resource replaced
-- by what it is in the end.
pub record AreKnown (l : Linking) (t : Tables) : Type 0 where
  pub count : length t.known.items ≡ length (components_in l)
  pub each : (c : ℕ) (k : KnownPlaced) → slice_get t.known.items c ≡ Some k
      → KnowsAll (numbering t.numbers) (standing (set_in l) c) (types_at (components_in l) c)
      (funcs_at (components_in l) c) k
