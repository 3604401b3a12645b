-- The functions of the component of a file.
use Rattle.std.specs.Prelude.{◌≡◌, ⊤, ℕ, List, Option, None, Some, slice_get}
use Rattle.cm_types.specs.Types.{FuncTy}
use Rattle.cm_types_arena.specs.Replaced.{replaced_func}
use Rattle.cm_types_arena.specs.Placed.{moved_by}
use Rattle.cm_types_arena.specs.declared.moves.Move.{Move}
use Rattle.cm_shims.specs.Files.{Reading, component_in}
use Rattle.cm_validate_model.specs.Definitions.{FuncDef, func_type_of}
use Rattle.cm_validate_model.specs.Spaces.{Spaces, spaces_of}
use Rattle.huxarte_c_components.specs.declared.fault.ComponentFault.{ComponentFault}
use Rattle.huxarte_c_components.specs.declared.fault.ComponentFault.TheVariants as fault
use Rattle.huxarte_c_components.specs.declared.func_type.FuncFault.{FuncFault}
use Rattle.huxarte_c_components.specs.declared.func_type.FuncFault.TheVariants as func_fault
use Rattle.huxarte_c_components.specs.Sound.{IsRead}

-- The function of an index has this type, its resources counted as where it is defined: an import
-- may have moved them.
pub record HasType (s : Spaces) (index : ℕ) (f : FuncTy) : Type 0 where
  pub func : FuncDef
  pub there : slice_get s.funcs index ≡ Some func
  pub by : Option Move
  pub is : func_type_of func ≡ replaced_func (moved_by by) f

-- the spaces have no function of this index
abbrev pub HasNone : Spaces → ℕ → Type 0
HasNone s index = slice_get s.funcs index ≡ None

-- why spaces have no type of a function of this index
abbrev pub IsNoFunc : Spaces → ℕ → FuncFault → Type 0
IsNoFunc s index func_fault.NoFunc = HasNone s index
IsNoFunc s index func_fault.Memory = ⊤

-- the fault under which C knows that
abbrev pub told_of : FuncFault → ComponentFault
told_of func_fault.NoFunc = fault.NoFunc
told_of func_fault.Memory = fault.Memory

-- the function of an index of the component of a file has this type
abbrev pub HasFunc : List ℕ → ℕ → FuncTy → Type 0
HasFunc bytes index f =
    (r : Reading) × IsRead bytes r × HasType (spaces_of (component_in r)) index f

-- the component of a file has no function of this index
abbrev pub HasNoFunc : List ℕ → ℕ → Type 0
HasNoFunc bytes index =
    (r : Reading) × IsRead bytes r × HasNone (spaces_of (component_in r)) index
