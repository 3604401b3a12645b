-- Numbers that are known of types, their resources moved and then replaced.
use Rattle.std.specs.Prelude.{◌≡◌, ℕ, List, Option, Some}
use Rattle.std.specs.BTreeMap.{get}
use Rattle.std.specs.declared.cmp.Ordering.{Ordering}
use Rattle.cm_types.specs.Types.{Ty, FuncTy}
use Rattle.cm_types_arena.specs.Replaced.{Standing, replaced_func}
use Rattle.cm_types_arena.specs.Places.{types_of, funcs_of}
use Rattle.cm_types_arena.specs.TypeDefs.{func_at}
use Rattle.cm_types_arena.specs.declared.types.Types.{Types}
use Rattle.cm_types_numbers.specs.Knowing.{Knows}
use Rattle.cm_types_numbers.specs.Numbering.{Numbering, number_func}
use Rattle.cm_types_numbers.specs.declared.known.Known.{Known}
use Rattle.cm_types_numbers.specs.Moved.{moved_through}
use Rattle.cm_types_numbers.specs.contracts.moves.MovedFuncOrd.TheImpl as func_ord
use Rattle.cm_types_numbers.specs.contracts.moves.MovesOrd.TheImpl as moves_ord
use Rattle.cm_types_numbers.specs.declared.funcs.KnownFuncs.{KnownFuncs}
use Rattle.cm_types_numbers.specs.declared.known_placed.KnownPlaced.{KnownPlaced}
use Rattle.cm_types_numbers.specs.declared.moves.MovedFunc.{MovedFunc}
use Rattle.cm_types_numbers.specs.declared.moves.Moves.{Moves}
use Rattle.cm_types_numbers.specs.declared.types.KnownTypes.{KnownTypes}

-- the orders of what the tables are searched by
abbrev pub moves_order : Moves → Moves → Ordering
moves_order = (moves_ord.ghosts).cmp

abbrev pub func_order : MovedFunc → MovedFunc → Ordering
func_order = (func_ord.ghosts).cmp

-- the table of types that are moved so, and the number of a function's type
abbrev pub known_table : KnownTypes → Moves → Option Known
known_table known moves = get moves_order known.tables moves

abbrev pub known_func : KnownFuncs → MovedFunc → Option ℕ
known_func known func = get func_order known.numbers func

-- What is known are numbers of these types, moved and each resource replaced.
abbrev pub KnowsTypes : Numbering → Standing → List Ty → KnownTypes → Type 0
KnowsTypes t s ts known = (moves : Moves) (table : Known) → known_table known moves ≡ Some table
    → Knows t (λ r. s (moved_through moves r)) ts table

-- What is known are numbers of these functions' types, moved and each resource replaced.
abbrev pub KnowsFuncs : Numbering → Standing → List FuncTy → KnownFuncs → Type 0
KnowsFuncs t s fs known = (func : MovedFunc) (n : ℕ) → known_func known func ≡ Some n
    → number_func t
    (replaced_func (λ r. s (moved_through func.moves r)) (func_at fs func.place)) ≡ Some n

-- What is known of the types of an arena are their numbers.
pub record KnowsPlaced (t : Numbering) (s : Standing) (arena : Types) (known : KnownPlaced)
    : Type 0 where
  pub types : KnowsTypes t s (types_of arena) known.types
  pub funcs : KnowsFuncs t s (funcs_of arena) known.funcs
